use Rattle.std.proofs.Common.{◌≡◌, suc, ◌+◌, ◌∙◌, map, ap, sym, arith}
use Rattle.obd_base.specs.Lists.{below}
use Rattle.page_surface.specs.Drawing.{points_on}
use Rattle.page_surface.specs.Polygon.{first_side}
use Rattle.drawing.specs.Points.{crossings_of, strand_of}
use Rattle.drawing.specs.Strands.{strand_at}
use Rattle.drawing.proofs.Generators.{contact_on_own}
use Rattle.generator_list.proofs.StrandPoints.{crossing_strand, map_next}
use Rattle.generator_list.proofs.points.arc_strands.Goals as goal

pub loop-place-preserved : goal.loop-place-preserved
loop-place-preserved c =
    let side = c.first_side-side.ensures ∙ ap (λ p. first_side p c.args.arc) c.polygon.ensures in
    let count = c.points_on-place-end.ensures.value ∙ ap (points_on c.args.drawing.now.drawing) side in
    map_next (strand_of c.args.drawing.now.drawing c.args.arc) c.loop-place.place _ _ _ c.loop-place.invariant
    (c.strand_at.ensures ∙ (ap (λ k. strand_at c.args.drawing.now.drawing k c.loop-place.place) side
    ∙ crossing_strand c.args.drawing.now.drawing c.args.arc c.loop-place.place (omega (arith, c.loop-place-test.true, count)))) c.in_ok-push.ensures.ok

pub returns : goal.returns
returns c =
    let side = c.first_side-side.ensures ∙ ap (λ p. first_side p c.args.arc) c.polygon.ensures in
    let count = c.points_on-place-end.ensures.value ∙ ap (points_on c.args.drawing.now.drawing) side in
    let last : c.loop-place.place ≡ crossings_of c.args.drawing.now.drawing c.args.arc = omega (arith, c.loop-place-test.false, c.loop-place.auto.place-end, count) in
    let all : c.loop-place.place + 1 ≡ suc (crossings_of c.args.drawing.now.drawing c.args.arc) = omega (arith, last) in
    map_next (strand_of c.args.drawing.now.drawing c.args.arc) c.loop-place.place _ _ _ c.loop-place.invariant
    (c.new.ensures ∙ (c.number.ensures.value ∙ sym (ap (strand_of c.args.drawing.now.drawing c.args.arc) last ∙ contact_on_own c.args.drawing.now.drawing c.args.arc c.requires))) c.in_ok-push-2.ensures.ok
    ∙ ap (λ n. map (strand_of c.args.drawing.now.drawing c.args.arc) (below n)) all
