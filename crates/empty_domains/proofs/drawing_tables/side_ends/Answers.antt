use Rattle.std.proofs.Common.{◌+◌, ◌<◌, arith}
use Rattle.empty_domains.proofs.Made.{points_read}
use Rattle.page_surface.specs.Drawing.{offset, points_on}
use Rattle.page_surface.specs.Polygon.{sides}
use Rattle.region_table.proofs.ChordTables.{start_read, starts_size, told_more}
use Rattle.empty_domains.proofs.drawing_tables.side_ends.Goals as goal

pub bounds-starts-side : goal.bounds-starts-side
bounds-starts-side c = omega (arith, starts_size c.args.diagram.now c.args.starts.now c.requires.starts, c.requires.count, c.loop-side-test.true)

pub overflow_sub-starts : goal.overflow_sub-starts
overflow_sub-starts c =
    omega (arith, points_read c.args.diagram.now c.args.starts.now c.requires.starts c.loop-side.side (c.loop-side.side + 1) (omega (arith, c.requires.count, c.loop-side-test.true)) (omega arith))

pub loop-side-preserved : goal.loop-side-preserved
loop-side-preserved c =
    let d = c.args.diagram.now in
    let l : c.loop-side.side < sides d.polygon = omega (arith, c.requires.count, c.loop-side-test.true) in
    let p = points_read d c.args.starts.now c.requires.starts c.loop-side.side (c.loop-side.side + 1) l (omega arith) in
    let s = start_read d c.args.starts.now c.requires.starts c.loop-side.side (omega arith) in
    told_more (λ k. offset d k + points_on d k) c.loop-side.side _ _ _ c.loop-side.invariant (omega (arith, p, s)) c.in_ok-push.ensures.items
