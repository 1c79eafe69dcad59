use Rattle.drawing.proofs.SweepTables.{chords_more}
use Rattle.drawing.proofs.chords.all_chords.Goals as goal

pub loop-strand-preserved : goal.loop-strand-preserved
loop-strand-preserved c = chords_more c.args.layout.now.drawing c.loop-strand.strand _ _ _ c.loop-strand.invariant c.new.ensures c.in_ok-push_chords.ensures
