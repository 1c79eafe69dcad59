use Rattle.std.proofs.Common.{◌≡◌, ℕ, ◌<◌, length}
use Rattle.region_table.specs.Ends.{IsEnd, IsNoted, end_at}
use Rattle.region_table.proofs.ends.note_strand.Given as goal

-- what was right stays right, and the chords so far are noted
abbrev pub invariant-loop-chord : goal.invariant-loop-chord
invariant-loop-chord l = record {
  size : length l.ends ≡ length l.fn.ends;
  kept : (x : ℕ) → IsEnd l.begins.lists l.mates x (end_at l.fn.ends x) → IsEnd l.begins.lists l.mates x (end_at l.ends x);
  noted : (c : ℕ) → c < l.chord → IsNoted l.begins.lists l.mates l.ends l.fn.strand c;
}
