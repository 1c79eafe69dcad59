use Rattle.std.proofs.Common.{◌≡◌, ℕ, take}
use Rattle.obd_base.specs.Lists.{has}
use Rattle.generator_list.specs.Search.{in_set}
use Rattle.generator_list.proofs.strand_sets.set_of.Given as goal

-- the set is that of the strands so far
abbrev pub invariant-loop-strand : goal.invariant-loop-strand
invariant-loop-strand l = (s : ℕ) → in_set l.set s ≡ has (take l.strand-index l.strands) s
