use Rattle.std.proofs.Common.{arith}
use Rattle.generator_list.proofs.SetTables.{row_more, row_whole}
use Rattle.generator_list.proofs.open_rows.row_before.Goals as goal

pub loop-set-preserved : goal.loop-set-preserved
loop-set-preserved c = row_more c.set_of-met.result c.loop-set.set c.args.next.now _ _ _ _ c.loop-set.invariant (omega arith) c.can_choose.ensures c.in_ok-push.ensures.ok

pub returns : goal.returns
returns c rest is =
    row_whole c.args.strands.now rest c.set_of-met.result c.loop-set.set c.args.next.now _ c.requires.strands c.set_of-met.ensures is
    (omega (arith, c.loop-set-test.false, c.loop-set.auto.set-end)) c.loop-set.invariant
