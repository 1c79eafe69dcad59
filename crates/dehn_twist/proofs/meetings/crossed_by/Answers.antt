use Rattle.std.proofs.Common.{arith, refl}
use Rattle.dehn_twist.proofs.MeetingTables.{crossed_more}
use Rattle.dehn_twist.proofs.meetings.crossed_by.Goals as goal

pub loop-number-preserved : goal.loop-number-preserved
loop-number-preserved c =
    let h = crossed_more c.args.mates.now c.args.chord c.loop-number.number _ _ _ _ _ c.loop-number.invariant.here c.loop-number.invariant.so_far c.counted-count.ensures refl c.in_ok-push-2.ensures.items in
    record { here = h.0; within = omega (arith, h.2, c.loop-number.invariant.within); so_far = h.1 }
