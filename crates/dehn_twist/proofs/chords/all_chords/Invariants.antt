use Rattle.std.proofs.Common.{◌≡◌}
use Rattle.std.specs.List.{flat_map}
use Rattle.obd_base.specs.Lists.{below}
use Rattle.dehn_twist.specs.Tables.{merged_strand}
use Rattle.dehn_twist.proofs.chords.all_chords.Given as goal

-- the chords of the strands so far
abbrev pub invariant-loop-strand : goal.invariant-loop-strand
invariant-loop-strand l = l.all.items ≡ flat_map (merged_strand l.merged.drawing l.merged.curve) (below l.strand)
