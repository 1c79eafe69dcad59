use Rattle.std.proofs.Common.{arith}
use Rattle.dehn_twist.proofs.LoopTables.{loops_done, loops_more, ring_count}
use Rattle.dehn_twist.proofs.loops.put_loops.Goals as goal

pub loop-step-preserved : goal.loop-step-preserved
loop-step-preserved c =
    loops_more c.args.meetings.now.drawing c.args.meetings.now.curve c.args.sign c.args.chord c.loop-step.step _ _ _ _ _ c.ring-count.ensures c.point_met.ensures.value c.loop-step.invariant c.in_ok-put_met.ensures

pub returns : goal.returns
returns c =
    loops_done c.args.meetings.now.drawing c.args.meetings.now.curve c.args.sign c.args.chord c.loop-step.step _ _
    (omega (arith, c.loop-step-test.false, c.loop-step.auto.step-end, ring_count c.args.meetings.now.drawing c.args.meetings.now.curve c.args.sign c.args.chord _ c.ring-count.ensures)) c.loop-step.invariant
