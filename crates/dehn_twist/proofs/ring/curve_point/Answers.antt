use Rattle.dehn_twist.proofs.RingTables.{point_made}
use Rattle.dehn_twist.proofs.ring.curve_point.Goals as goal

pub returns : goal.returns
returns c =
    point_made c.args.merged.now.drawing c.args.merged.now.curve _ _ _ _ _ _ c.curve_number.ensures c.mate.ensures.value c.curve_number-2.ensures c.chord_at.ensures.value c.is_chord_end.ensures
