use Rattle.generator_list.proofs.SetTables.{set_more}
use Rattle.generator_list.proofs.strand_sets.set_of.Goals as goal

pub loop-strand-preserved : goal.loop-strand-preserved
loop-strand-preserved c = set_more c.args.strands.now _ _ _ _ c.loop-strand-test.true c.strand-item.is c.set_with-set.ensures c.loop-strand.invariant
