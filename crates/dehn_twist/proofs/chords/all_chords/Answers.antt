use Rattle.dehn_twist.proofs.ChordTables.{merged_more}
use Rattle.dehn_twist.proofs.chords.all_chords.Goals as goal

pub loop-strand-preserved : goal.loop-strand-preserved
loop-strand-preserved c = merged_more _ _ c.polygon.ensures.taken c.loop-strand.strand _ _ _ c.loop-strand.invariant c.new.ensures c.in_ok-push_chords.ensures
