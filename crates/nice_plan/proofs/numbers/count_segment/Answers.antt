use Rattle.std.proofs.Common.{◌≡◌, ◌<◌, length, sym, ◌∙◌, ap, ap₂, subst, arith}
use Rattle.page_surface.specs.Polygon.{partner}
use Rattle.nice_plan.specs.Counted.{marked, row}
use Rattle.nice_plan.proofs.Counting.{first_place, second_place}
use Rattle.nice_plan.proofs.numbers.count_segment.Goals as goal

pub mark-requires-clause-place : goal.mark-requires-clause-place
mark-requires-clause-place c =
    let d = c.args.drawing.now.drawing in
    let s = c.args.segment.now in
    subst (λ k. s.place < length (row c.args.rows.now k)) (sym c.number.ensures.value)
    (first_place d c.points.ensures.valid.polygon s c.requires.there c.args.rows.now c.requires.rows)

pub mark-requires-2-clause-place : goal.mark-requires-2-clause-place
mark-requires-2-clause-place c =
    let d = c.args.drawing.now.drawing in
    let s = c.args.segment.now in
    let rows = c.args.rows.now in
    let once : c.mark.new.rows ≡ marked rows s.side s.place = c.mark.ensures ∙ ap (λ k. marked rows k s.place) c.number.ensures.value in
    let glued : c.number-2.result ≡ partner d.polygon s.side = c.number-2.ensures.value ∙ (c.pair-glued.ensures ∙ ap (λ p. partner p s.side) c.polygon.ensures) in
    let long = ap₂ (λ rs k. length (row rs k)) once glued in
    let there = second_place d c.points.ensures.valid.polygon s c.requires.there rows c.requires.rows in
    omega (arith, long, there, c.points_on.ensures.value)
