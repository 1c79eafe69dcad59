use Rattle.std.proofs.Common.{◌≡◌, ◌+◌, ◌/◌, length, ◌∙◌, refl, ap, arith}
use Rattle.page_surface.specs.Polygon.{arc_count, sides}
use Rattle.region_table.proofs.ToldLists.{marked_seen}
use Rattle.region_table.proofs.ToldTables.{named, seen_names, seen_told, told_below}
use Rattle.region_table.proofs.told.told_of.Goals as goal

pub mark-requires-clause-named : goal.mark-requires-clause-named
mark-requires-clause-named c = named c.args.drawing.now.drawing c.points.ensures.valid c.args.names.now c.requires.names

pub mark-requires-clause-told : goal.mark-requires-clause-told
mark-requires-clause-told c = λ s l.
    let arcs : c.sides.result / 2 ≡ arc_count c.args.drawing.now.drawing.polygon = ap (λ n. n / 2) (c.sides.ensures.value ∙ ap sides c.polygon.ensures) in
    let t = told_below c.args.drawing.now.drawing c.points.ensures.valid c.args.names.now c.requires.names _ c.points.result (c.sides.result / 2) refl c.points.ensures.value arcs s l in
    omega (arith, t, c.in_ok-told.ensures.count)

pub count-requires-clause-few : goal.count-requires-clause-few
count-requires-clause-few c = omega (arith, c.requires.few, named c.args.drawing.now.drawing c.points.ensures.valid c.args.names.now c.requires.names)

pub count-requires-clause-told : goal.count-requires-clause-told
count-requires-clause-told c = λ s l.
    let arcs : c.sides.result / 2 ≡ arc_count c.args.drawing.now.drawing.polygon = ap (λ n. n / 2) (c.sides.ensures.value ∙ ap sides c.polygon.ensures) in
    let many = named c.args.drawing.now.drawing c.points.ensures.valid c.args.names.now c.requires.names in
    let t = told_below c.args.drawing.now.drawing c.points.ensures.valid c.args.names.now c.requires.names _ c.points.result (c.sides.result / 2) refl c.points.ensures.value arcs s (omega (arith, l, many)) in
    omega (arith, t, c.in_ok-told.ensures.count, c.mark.ensures.count)

pub measure-requires-clause-given : goal.measure-requires-clause-given
measure-requires-clause-given c =
    let d = c.args.drawing.now.drawing in
    let arcs : c.sides.result / 2 ≡ arc_count d.polygon = ap (λ n. n / 2) (c.sides.ensures.value ∙ ap sides c.polygon.ensures) in
    let n = c.points.result + c.sides.result / 2 + 1 in
    let size : length c.count.new.self.regions ≡ n = omega (arith, c.count.ensures.counted.count, c.mark.ensures.count, c.in_ok-told.ensures.count) in
    (d, seen_names d c.points.ensures.valid c.args.names.now c.requires.names n c.points.result (c.sides.result / 2) refl c.points.ensures.value arcs c.args.mates.now _ c.requires.mates c.requires.few size (marked_seen d c.args.names.now _ _ (named d c.points.ensures.valid c.args.names.now c.requires.names) c.mark.ensures.base c.count.ensures.counted))

pub measure-requires-clause-small : goal.measure-requires-clause-small
measure-requires-clause-small c =
    let n = c.sides.ensures.most in
    omega (arith, c.count.ensures.counted.count, c.mark.ensures.count, c.in_ok-told.ensures.count, c.points.ensures.few, n)

pub returns-clause-told : goal.returns-clause-told
returns-clause-told c =
    let d = c.args.drawing.now.drawing in
    let arcs : c.sides.result / 2 ≡ arc_count d.polygon = ap (λ n. n / 2) (c.sides.ensures.value ∙ ap sides c.polygon.ensures) in
    let n = c.points.result + c.sides.result / 2 + 1 in
    let size : length c.count.new.self.regions ≡ n = omega (arith, c.count.ensures.counted.count, c.mark.ensures.count, c.in_ok-told.ensures.count) in
    let given = seen_names d c.points.ensures.valid c.args.names.now c.requires.names n c.points.result (c.sides.result / 2) refl c.points.ensures.value arcs c.args.mates.now _ c.requires.mates c.requires.few size (marked_seen d c.args.names.now _ _ (named d c.points.ensures.valid c.args.names.now c.requires.names) c.mark.ensures.base c.count.ensures.counted) in
    seen_told d c.points.ensures.valid c.args.names.now c.requires.names n c.points.result (c.sides.result / 2) refl c.points.ensures.value arcs _ _ size (marked_seen d c.args.names.now _ _ (named d c.points.ensures.valid c.args.names.now c.requires.names) c.mark.ensures.base c.count.ensures.counted) c.measure.ensures.others
    (c.measure.ensures.distances d given)
