use Rattle.std.proofs.Common.{arith}
use Rattle.obd_cli.proofs.SampleBook.{count_fits}
use Rattle.obd_cli.proofs.sample.exit_count.Goals as goal

pub overflow_add-count : goal.overflow_add-count
overflow_add-count c = omega (arith, count_fits c.args.strands.now c.loop-strand.strand-index _ _ c.loop-strand-test.true c.strand-item.is c.loop-strand.count c.len.result c.loop-strand.invariant c.len.ensures c.requires)
