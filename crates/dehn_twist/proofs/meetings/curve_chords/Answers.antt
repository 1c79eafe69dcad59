use Rattle.dehn_twist.specs.Surgery.{merged_curve}
use Rattle.dehn_twist.proofs.OrderTables.{map_push}
use Rattle.dehn_twist.proofs.MeetingTables.{curve_chord_is}
use Rattle.dehn_twist.proofs.meetings.curve_chords.Goals as goal

pub loop-chord-preserved : goal.loop-chord-preserved
loop-chord-preserved c =
    map_push (merged_curve c.args.merged.now.drawing c.args.merged.now.curve) c.loop-chord.chord _ _ _ c.loop-chord.invariant
    (curve_chord_is c.args.merged.now.drawing c.args.merged.now.curve _ _ _ _ _ _ c.chord_start.ensures.value c.chord_end.ensures.value c.curve_number-from.ensures c.curve_number-to.ensures c.new.ensures) c.in_ok-push.ensures.items
