use Rattle.std.proofs.Common.{◌≡◌, ◌+◌, ◌-◌, ◌<◌, true, get_or, ◌∙◌, ap, arith}
use Rattle.std.proofs.lemmas.List.{length-set}
use Rattle.page_surface.specs.Polygon.{sides}
use Rattle.drawing.specs.Pieces.{gap}
use Rattle.region_table.proofs.ToldSteps.{gap_inside, gap_read, mark_more, next_side_known}
use Rattle.region_table.proofs.told.mark_bases.Goals as goal

pub bounds-starts-side : goal.bounds-starts-side
bounds-starts-side c =
    let n : c.sides-side-end.result ≡ sides c.args.drawing.now.drawing.polygon = c.sides-side-end.ensures.value ∙ ap sides c.polygon.ensures in
    next_side_known c.args.drawing.now.drawing c.args.starts.now c.requires.starts c.loop-side.side (omega (arith, n, c.loop-side-test.true))

pub overflow_sub-gap : goal.overflow_sub-gap
overflow_sub-gap c =
    let n : c.sides-side-end.result ≡ sides c.args.drawing.now.drawing.polygon = c.sides-side-end.ensures.value ∙ ap sides c.polygon.ensures in
    omega (arith, gap_read c.args.drawing.now.drawing c.args.starts.now c.requires.starts c.loop-side.side (omega (arith, n, c.loop-side-test.true)))

pub bounds-names-gap : goal.bounds-names-gap
bounds-names-gap c =
    let d = c.args.drawing.now.drawing in
    let n : c.sides-side-end.result ≡ sides d.polygon = c.sides-side-end.ensures.value ∙ ap sides c.polygon.ensures in
    let l : c.loop-side.side < sides d.polygon = omega (arith, n, c.loop-side-test.true) in
    omega (arith, gap_read d c.args.starts.now c.requires.starts c.loop-side.side l, gap_inside d c.args.starts.now c.requires.starts c.loop-side.side l, c.requires.named)

pub bounds-bases-names : goal.bounds-bases-names
bounds-bases-names c =
    let d = c.args.drawing.now.drawing in
    let n : c.sides-side-end.result ≡ sides d.polygon = c.sides-side-end.ensures.value ∙ ap sides c.polygon.ensures in
    let l : c.loop-side.side < sides d.polygon = omega (arith, n, c.loop-side-test.true) in
    let g = gap_read d c.args.starts.now c.requires.starts c.loop-side.side l in
    let t = c.requires.told (get_or c.args.starts.now (c.loop-side.side + 1) 0 - 1) (omega (arith, g, gap_inside d c.args.starts.now c.requires.starts c.loop-side.side l)) in
    omega (arith, t, c.loop-side.invariant.size)

pub loop-side-preserved : goal.loop-side-preserved
loop-side-preserved c =
    let d = c.args.drawing.now.drawing in
    let v = c.loop-side.invariant in
    let n : c.sides-side-end.result ≡ sides d.polygon = c.sides-side-end.ensures.value ∙ ap sides c.polygon.ensures in
    let l : c.loop-side.side < sides d.polygon = omega (arith, n, c.loop-side-test.true) in
    let g = gap_read d c.args.starts.now c.requires.starts c.loop-side.side l in
    let x = get_or c.args.starts.now (c.loop-side.side + 1) 0 - 1 in
    let is : x ≡ gap d c.loop-side.side = omega (arith, g) in
    let t = c.requires.told x (omega (arith, g, gap_inside d c.args.starts.now c.requires.starts c.loop-side.side l)) in
    let at = get_or c.args.names.now x 0 in
    record {
      size = length-set c.loop-side.bases at true ∙ v.size;
      marked = mark_more (λ s. get_or c.args.names.now s 0) (gap d) c.loop-side.side at c.loop-side.bases (ap (λ s. get_or c.args.names.now s 0) is) (omega (arith, t, v.size)) v.marked;
    }
