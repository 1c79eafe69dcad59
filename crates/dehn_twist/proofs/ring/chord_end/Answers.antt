use Rattle.std.proofs.Common.{ap, arith, length}
use Rattle.dehn_twist.proofs.RingTables.{exit_read}
use Rattle.dehn_twist.proofs.ring.chord_end.Goals as goal

pub returns-clause-side : goal.returns-clause-side
returns-clause-side c =
    (exit_read _ _ c.curve.ensures.taken _ c.args.chord _ c.curve.ensures.value (omega (arith, c.requires, ap length c.curve.ensures.value)) c.index-curve-chord.is).0

pub returns-clause-place : goal.returns-clause-place
returns-clause-place c =
    (exit_read _ _ c.curve.ensures.taken _ c.args.chord _ c.curve.ensures.value (omega (arith, c.requires, ap length c.curve.ensures.value)) c.index-curve-chord.is).1
