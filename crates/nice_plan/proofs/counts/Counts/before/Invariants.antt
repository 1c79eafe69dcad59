use Rattle.std.proofs.Common.{◌≡◌, ◌+◌, ◌<◌, ◌≤◌, sum, take, drop}
use Rattle.std.specs.Int.{IsPowerOfTwo}
use Rattle.nice_plan.proofs.counts.Counts.before.Given as goal

-- what was added so far, and what stands before a node of the level at hand
abbrev pub invariant-loop-first : goal.invariant-loop-first
invariant-loop-first l = record {
  power : IsPowerOfTwo l.first;
  level : l.first ≤ l.self-inside.leaves;
  inside : l.at < l.first;
  sum : l.sum + sum (take l.at (drop l.first l.self-inside.sums.items)) ≡ sum (take l.place l.self);
}

abbrev pub decreases-loop-first : goal.decreases-loop-first
decreases-loop-first l = l.first
