use Rattle.std.proofs.Common.{arith}
use Rattle.handle_slide.proofs.PointTables.{staying_more}
use Rattle.handle_slide.proofs.points.staying.Goals as goal

pub loop-goes-preserved : goal.loop-goes-preserved
loop-goes-preserved c =
    let (a, b, d) = staying_more c.args.marks.now c.loop-goes.goes-index c.loop-goes.counts.items c.push-in-loop-goes.new.self.items c.loop-goes.count c.count_if_stays-count.result
    (omega (arith, c.loop-goes-test.true)) c.loop-goes.invariant.0 c.loop-goes.invariant.1 c.count_if_stays-count.ensures c.in_ok-push-2.ensures.items in
    (a, b, d c.loop-goes.invariant.2)
