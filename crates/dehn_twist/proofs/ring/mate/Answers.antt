use Rattle.dehn_twist.proofs.RingTables.{mate_at_end}
use Rattle.dehn_twist.proofs.ring.mate.Goals as goal

pub returns-then-is_chord_end-clause-value : goal.returns-then-is_chord_end-clause-value
returns-then-is_chord_end-clause-value c =
    mate_at_end c.args.merged.now.drawing.polygon c.args.merged.now.curve _ _ _ _ c.chord_at-chord.ensures.value c.chord_start.ensures.value c.is_chord_end.ensures c.if-is_chord_end.true
