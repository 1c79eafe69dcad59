use Rattle.std.proofs.Common.{◌∙◌, length, subst, sym, ap, arith}
use Rattle.handle_slide.proofs.SideTables.{all_once, all_sides, new_count, new_numbers, new_pairs, old_sides}
use Rattle.handle_slide.proofs.NewNumbers.{length-slid, length-slid_polygon, slid_pairs}
use Rattle.page_surface.specs.Polygon.{Pairs, paired}
use Rattle.handle_slide.proofs.sides.NewSides.of.Goals as goal

pub places_in-requires-clause-few : goal.places_in-requires-clause-few
places_in-requires-clause-few c =
    omega (arith, ap length (c.deref.ensures.value ∙ c.in_ok-order.ensures), length-slid c.args.polygon.now c.sides.ensures.valid c.args.side c.requires.side c.requires.slides, c.sides.ensures.value, c.sides.ensures.most)

pub places_in-requires-clause-in_range : goal.places_in-requires-clause-in_range
places_in-requires-clause-in_range c =
    all_sides c.args.polygon.now c.sides.ensures.valid c.args.side c.requires.side c.requires.slides c.deref.result.now (c.deref.ensures.value ∙ c.in_ok-order.ensures)

pub places_in-requires-clause-once : goal.places_in-requires-clause-once
places_in-requires-clause-once c =
    all_once c.args.polygon.now c.sides.ensures.valid c.args.side c.requires.side c.requires.slides c.deref.result.now (c.deref.ensures.value ∙ c.in_ok-order.ensures)

pub renumbered-requires-clause-in_range : goal.renumbered-requires-clause-in_range
renumbered-requires-clause-in_range c = old_sides c.args.polygon.now c.sides.ensures.valid c.args.side c.requires.side c.requires.slides c.deref-2.result.now (c.deref-2.ensures.value ∙ c.in_ok-order.ensures)

pub renumbered-requires-clause-size : goal.renumbered-requires-clause-size
renumbered-requires-clause-size c = new_count c.args.polygon.now c.sides.ensures.valid c.args.side c.requires.side c.requires.slides c.deref.result.now (c.deref.ensures.value ∙ c.in_ok-order.ensures) c.deref-3.result.now (c.deref-3.ensures.value ∙ new_numbers c.args.polygon.now c.sides.ensures.valid c.args.side c.requires.side c.requires.slides c.deref.result.now (c.deref.ensures.value ∙ c.in_ok-order.ensures) c.in_ok-numbers.numbers.items c.in_ok-numbers.ensures)

pub of-requires-clause-least : goal.of-requires-clause-least
of-requires-clause-least c = omega (arith, ap length (new_pairs c.args.polygon.now c.sides.ensures.valid c.args.side c.requires.side c.requires.slides c.deref-2.result.now (c.deref-2.ensures.value ∙ c.in_ok-order.ensures) c.deref-3.result.now c.in_ok-pairs.pairs.items (c.deref-3.ensures.value ∙ new_numbers c.args.polygon.now c.sides.ensures.valid c.args.side c.requires.side c.requires.slides c.deref.result.now (c.deref.ensures.value ∙ c.in_ok-order.ensures) c.in_ok-numbers.numbers.items c.in_ok-numbers.ensures) c.in_ok-pairs.ensures), length-slid_polygon c.args.polygon.now c.sides.ensures.valid c.args.side c.requires.side c.requires.slides, c.sides.ensures.value, c.sides.ensures.least)

pub of-requires-clause-most : goal.of-requires-clause-most
of-requires-clause-most c = omega (arith, ap length (new_pairs c.args.polygon.now c.sides.ensures.valid c.args.side c.requires.side c.requires.slides c.deref-2.result.now (c.deref-2.ensures.value ∙ c.in_ok-order.ensures) c.deref-3.result.now c.in_ok-pairs.pairs.items (c.deref-3.ensures.value ∙ new_numbers c.args.polygon.now c.sides.ensures.valid c.args.side c.requires.side c.requires.slides c.deref.result.now (c.deref.ensures.value ∙ c.in_ok-order.ensures) c.in_ok-numbers.numbers.items c.in_ok-numbers.ensures) c.in_ok-pairs.ensures), length-slid_polygon c.args.polygon.now c.sides.ensures.valid c.args.side c.requires.side c.requires.slides, c.sides.ensures.value, c.sides.ensures.most)

pub of-requires-clause-pairs : goal.of-requires-clause-pairs
of-requires-clause-pairs c = subst (λ xs. Pairs (paired xs)) (sym (new_pairs c.args.polygon.now c.sides.ensures.valid c.args.side c.requires.side c.requires.slides c.deref-2.result.now (c.deref-2.ensures.value ∙ c.in_ok-order.ensures) c.deref-3.result.now c.in_ok-pairs.pairs.items (c.deref-3.ensures.value ∙ new_numbers c.args.polygon.now c.sides.ensures.valid c.args.side c.requires.side c.requires.slides c.deref.result.now (c.deref.ensures.value ∙ c.in_ok-order.ensures) c.in_ok-numbers.numbers.items c.in_ok-numbers.ensures) c.in_ok-pairs.ensures)) (slid_pairs c.args.polygon.now c.sides.ensures.valid c.args.side c.requires.side c.requires.slides)

pub returns-clause-numbers : goal.returns-clause-numbers
returns-clause-numbers c = new_numbers c.args.polygon.now c.sides.ensures.valid c.args.side c.requires.side c.requires.slides c.deref.result.now (c.deref.ensures.value ∙ c.in_ok-order.ensures) c.in_ok-numbers.numbers.items c.in_ok-numbers.ensures

pub returns-clause-polygon : goal.returns-clause-polygon
returns-clause-polygon c = c.in_ok-polygon.ensures ∙ ap paired (new_pairs c.args.polygon.now c.sides.ensures.valid c.args.side c.requires.side c.requires.slides c.deref-2.result.now (c.deref-2.ensures.value ∙ c.in_ok-order.ensures) c.deref-3.result.now c.in_ok-pairs.pairs.items (c.deref-3.ensures.value ∙ new_numbers c.args.polygon.now c.sides.ensures.valid c.args.side c.requires.side c.requires.slides c.deref.result.now (c.deref.ensures.value ∙ c.in_ok-order.ensures) c.in_ok-numbers.numbers.items c.in_ok-numbers.ensures) c.in_ok-pairs.ensures)
