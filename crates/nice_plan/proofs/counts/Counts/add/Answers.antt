use Rattle.std.proofs.Common.{length, ap, arith}
use Rattle.nice_plan.proofs.SumTree.{raised_more}
use Rattle.nice_plan.proofs.counts.Counts.add.Goals as goal

pub loop-node-preserved : goal.loop-node-preserved
loop-node-preserved c =
    let h = c.loop-node.invariant in
    let there = c.requires.place in
    record {
      leaves = h.leaves;
      raised = raised_more c.self.inside.leaves c.args.place c.self.inside.sums.items c.loop-node.self-inside.sums.items c.loop-node.node c.index_mut.result.now _ c.self.invariant
          (omega (arith, there, ap length c.self.view_is)) c.loop-node-test.true c.index_mut.ensures.value h.raised;
    }
