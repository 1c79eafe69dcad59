use Rattle.std.proofs.Common.{◌≡◌, List, map, take}
use Rattle.std.specs.List.{flat_map}
use Rattle.obd_base.specs.declared.points.Exit.{Exit}
use Rattle.obd_lines.proofs.exits.joined.Given as goal

-- the exits of the strands so far
abbrev pub invariant-loop-strand : goal.invariant-loop-strand
invariant-loop-strand l = l.exits.items ≡ flat_map (λ (strand : List Exit). strand) (map (λ s. s.items) (take l.strand-index l.strands))
