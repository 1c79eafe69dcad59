use Rattle.std.proofs.Common.{◌≡◌}
use Rattle.nice_plan.proofs.SumTree.{IsRaised}
use Rattle.nice_plan.proofs.counts.Counts.add.Given as goal

-- the nodes below the one at hand are one more
abbrev pub invariant-loop-node : goal.invariant-loop-node
invariant-loop-node l = record {
  leaves : l.self-inside.leaves ≡ l.initial.self-inside.leaves;
  raised : IsRaised l.initial.self-inside.leaves l.place l.initial.self-inside.sums.items l.self-inside.sums.items l.node;
}

abbrev pub decreases-loop-node : goal.decreases-loop-node
decreases-loop-node l = l.node
