use Rattle.std.proofs.Common.{◌-◌}
use Rattle.generator_list.proofs.Sorted.{IsNarrowed}
use Rattle.generator_list.proofs.packed.Packed.find.Given as goal

-- the lists that are left
abbrev pub decreases-loop-low : goal.decreases-loop-low
decreases-loop-low l = l.high - l.low

-- those before are less, those after are greater
abbrev pub invariant-loop-low : goal.invariant-loop-low
invariant-loop-low l = IsNarrowed l.self.lists l.list l.low l.high
