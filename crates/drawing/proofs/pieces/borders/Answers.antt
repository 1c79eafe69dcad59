use Rattle.std.proofs.Common.{◌≡◌, ◌<◌, ◌/◌, ◌∙◌, ap, arith, false, not, subst, sym}
use Rattle.std.specs.List.{flat_map, list_any}
use Rattle.obd_base.specs.Lists.{below}
use Rattle.page_surface.specs.Drawing.{spot, strand_chords}
use Rattle.page_surface.specs.Polygon.{arc_count, sides}
use Rattle.drawing.specs.Pieces.{parts_from}
use Rattle.drawing.proofs.Bordering.{borders_from}
use Rattle.drawing.proofs.SpanTests.{strand_passes, strands_fail}
use Rattle.drawing.proofs.pieces.borders.Goals as goal

pub returns-then-strand_parts : goal.returns-then-strand_parts
returns-then-strand_parts c =
    let d = c.args.layout.now.drawing in
    let n : c.sides-strand-end.result ≡ sides d.polygon = cc in
    let l : c.loop-strand.strand < arc_count d.polygon = rw n at c.loop-strand-test.true in
    let test = rw (c.new.ensures, c.of-window.ensures.start, c.of-window.ensures.segment) at c.strand_parts.ensures in
    let some = strand_passes (parts_from c.spot-start.result c.spot-segment.result) d _ _ _ l test c.if-strand_parts.true in
    sym (ap not some) ∙ borders_from d c.requires.embedded c.args.finger.now c.requires.finger _ _ (c.spot-start.ensures.value ∙ c.chord_start.ensures.value) (c.spot-segment.ensures.value ∙ ap (spot d) c.segment_of.ensures)

pub loop-strand-preserved : goal.loop-strand-preserved
loop-strand-preserved c =
    let test = rw (c.of-window.ensures.start, c.of-window.ensures.segment) at c.strand_parts.ensures in
    strands_fail (parts_from c.spot-start.result c.spot-segment.result) c.args.layout.now.drawing _ _ _ c.new.ensures test c.if-strand_parts.false c.loop-strand.invariant

pub returns : goal.returns
returns c =
    let d = c.args.layout.now.drawing in
    let n : c.sides-strand-end.result ≡ sides d.polygon = cc in
    let e : c.loop-strand.strand ≡ c.sides-strand-end.result / 2 = omega (arith, c.loop-strand-test.false, c.loop-strand.auto.strand-end) in
    let all = e ∙ ap (λ k. k / 2) n in
    let none = subst (λ k. list_any (parts_from c.spot-start.result c.spot-segment.result) (flat_map (strand_chords d) (below k)) ≡ false) all c.loop-strand.invariant in
    sym (ap not none) ∙ borders_from d c.requires.embedded c.args.finger.now c.requires.finger _ _ (c.spot-start.ensures.value ∙ c.chord_start.ensures.value) (c.spot-segment.ensures.value ∙ ap (spot d) c.segment_of.ensures)
