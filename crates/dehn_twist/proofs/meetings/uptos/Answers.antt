use Rattle.std.proofs.Common.{◌+◌, [], ap, arith, get_or}
use Rattle.dehn_twist.proofs.OrderTables.{starts_more}
use Rattle.dehn_twist.proofs.MeetingTables.{cell_read}
use Rattle.dehn_twist.proofs.meetings.uptos.Goals as goal

pub loop-chord-preserved : goal.loop-chord-preserved
loop-chord-preserved c =
    let v = cell_read c.args.crossed.now c.loop-chord.chord c.args.size _ _ c.loop-chord-test.true c.index-crossed-chord.is c.item.ensures (c.requires.sizes c.loop-chord.chord c.loop-chord-test.true) in
    let h = starts_more (λ b. get_or (get_or c.args.crossed.now b []) c.args.size 0) c.loop-chord.chord _ _ _ _ c.loop-chord.invariant.here c.loop-chord.invariant.so_far
    (ap (λ x. c.loop-chord.upto + x) v) c.in_ok-push-2.ensures.items in
    record { here = h.0; within = omega (arith, c.loop-chord.invariant.within, v, c.requires.small c.loop-chord.chord c.loop-chord-test.true); so_far = h.1 }
