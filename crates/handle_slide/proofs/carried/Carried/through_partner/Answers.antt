use Rattle.std.proofs.Common.{◌∙◌, ◌-◌, length, get_or, sym, subst, ap, arith}
use Rattle.obd_base.specs.Lists.{Mem}
use Rattle.page_surface.specs.Polygon.{partner}
use Rattle.curve_paths.specs.Curves.{curve_entry}
use Rattle.handle_slide.specs.Slide.{new_number, new_place, new_side_points}
use Rattle.handle_slide.proofs.CarriedTables.{entry_new, post_found, total_is}
use Rattle.handle_slide.proofs.carried.Carried.through_partner.Goals as goal

pub place-place-requires-clause-there : goal.place-place-requires-clause-there
place-place-requires-clause-there c =
    subst (λ e. Mem e (new_side_points c.args.self.now.polygon c.args.self.now.side c.args.self.now.exits))
    (sym (c.entry.ensures ∙ ap (curve_entry c.args.self.now.polygon c.args.self.now.exits) c.exit-exit.ensures.value))
    (entry_new c.args.self.now c.exit-exit.ensures.known c.args.at c.requires.at (sym c.leaves_partner.ensures ∙ c.if-not-leaves_partner.false))

pub overflow_sub-last-2 : goal.overflow_sub-last-2
overflow_sub-last-2 c =
    omega (arith, (total_is c.args.self.now c.exit-exit.ensures.known c.args.staying.now c.requires.staying).1, c.place-place.ensures.within)

pub overflow_sub-result : goal.overflow_sub-result
overflow_sub-result c =
    omega (arith, (total_is c.args.self.now c.exit-exit.ensures.known c.args.staying.now c.requires.staying).1, c.place-place.ensures.within)

pub returns : goal.returns
returns c =
    post_found c.args.self.now.polygon c.args.self.now.side c.args.self.now.exits c.args.at c.new_number.result (get_or c.args.staying.now (length c.args.staying.now - 1) 0) c.place-place.result (sym c.leaves_partner.ensures ∙ c.if-not-leaves_partner.false)
    (c.new_number.ensures.value ∙ ap (new_number c.args.self.now.polygon c.args.self.now.side) (c.partner.ensures.value ∙ ap (partner c.args.self.now.polygon) c.slid_side.ensures.value))
    (total_is c.args.self.now c.exit-exit.ensures.known c.args.staying.now c.requires.staying).1
    (c.place-place.ensures.value ∙ ap (new_place c.args.self.now.polygon c.args.self.now.side c.args.self.now.exits) (c.entry.ensures ∙ ap (curve_entry c.args.self.now.polygon c.args.self.now.exits) c.exit-exit.ensures.value))
