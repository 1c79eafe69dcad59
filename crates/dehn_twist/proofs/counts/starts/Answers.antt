use Rattle.std.proofs.Common.{◌+◌, arith, get_or}
use Rattle.dehn_twist.proofs.OrderTables.{starts_more}
use Rattle.dehn_twist.proofs.counts.starts.Goals as goal

pub loop-side-preserved : goal.loop-side-preserved
loop-side-preserved c =
    let h = starts_more (λ i. get_or c.args.counts.now i 0 + get_or c.args.points.now i 0 + 2) c.loop-side.side _ _ _ _ c.loop-side.invariant.here c.loop-side.invariant.so_far
    (omega arith) c.in_ok-push-2.ensures.items in
    record { here = h.0; within = omega (arith, c.loop-side.invariant.within, c.requires.each c.loop-side.side c.loop-side-test.true); so_far = h.1 }
