use Rattle.std.proofs.Common.{◌≡◌, take}
use Rattle.std.specs.Prelude.{vec_items}
use Rattle.std.specs.List.{flat_map}
use Rattle.drawing.proofs.counts.joined.Given as goal

-- the exits of the strands so far
abbrev pub invariant-loop-strand : goal.invariant-loop-strand
invariant-loop-strand l = l.exits.items ≡ flat_map vec_items (take l.strand-index l.strands)
