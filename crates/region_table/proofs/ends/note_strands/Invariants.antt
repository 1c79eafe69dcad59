use Rattle.std.proofs.Common.{◌≡◌, ℕ, ◌<◌, [], length, get_or}
use Rattle.region_table.specs.Ends.{IsNoted}
use Rattle.region_table.proofs.ends.note_strands.Given as goal

-- the chords of the strands so far are noted
abbrev pub invariant-loop-strand : goal.invariant-loop-strand
invariant-loop-strand l = record {
  size : length l.ends ≡ length l.mates;
  noted : (i c : ℕ) → i < l.strand → c < length (get_or l.begins.lists i []) → IsNoted l.begins.lists l.mates l.ends i c;
}
