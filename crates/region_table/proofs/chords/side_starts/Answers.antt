use Rattle.std.proofs.Common.{◌≡◌, ◌+◌, ◌∙◌, ap, arith}
use Rattle.page_surface.specs.Drawing.{points_on}
use Rattle.page_surface.specs.Polygon.{sides}
use Rattle.region_table.proofs.ChordTables.{next_start, start_small, told_more}
use Rattle.region_table.proofs.chords.side_starts.Goals as goal

pub overflow_add-start-in-loop-side : goal.overflow_add-start-in-loop-side
overflow_add-start-in-loop-side c =
    let d = c.args.drawing.now.drawing in
    let p : c.points_on.result ≡ points_on d c.loop-side.side = c.points_on.ensures.value ∙ ap (points_on d) c.new.ensures in
    let n : c.sides-side-end.result ≡ sides d.polygon = c.sides-side-end.ensures.value ∙ ap sides c.polygon.ensures in
    omega (arith, start_small d c.loop-side.side _ _ c.requires (omega (arith, c.loop-side-test.true, n)) c.loop-side.invariant.here p)

pub loop-side-preserved : goal.loop-side-preserved
loop-side-preserved c =
    let d = c.args.drawing.now.drawing in
    let v = c.loop-side.invariant in
    let p : c.points_on.result ≡ points_on d c.loop-side.side = c.points_on.ensures.value ∙ ap (points_on d) c.new.ensures in
    let next = next_start d c.loop-side.side _ _ v.here p in
    record {
      here = next;
      so_far = told_more _ (c.loop-side.side + 1) _ _ _ v.so_far next c.in_ok-push-2.ensures.items;
    }
