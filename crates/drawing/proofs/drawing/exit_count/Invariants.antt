use Rattle.std.proofs.Common.{◌≡◌, length, take}
use Rattle.std.specs.Prelude.{vec_items}
use Rattle.std.specs.List.{flat_map}
use Rattle.drawing.proofs.drawing.exit_count.Given as goal

-- the exits of the strands so far
abbrev pub invariant-loop-strand : goal.invariant-loop-strand
invariant-loop-strand l = l.count ≡ length (flat_map vec_items (take l.strand-index l.strands))
