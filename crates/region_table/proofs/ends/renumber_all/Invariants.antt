use Rattle.std.proofs.Common.{◌≡◌, ℕ, ◌<◌, ◌≤◌, length}
use Rattle.region_table.specs.Ends.{end_at}
use Rattle.region_table.specs.FingerLists.{renumbered}
use Rattle.region_table.proofs.ends.renumber_all.Given as goal

-- the chords so far are renamed, and the others stay
abbrev pub invariant-loop-at : goal.invariant-loop-at
invariant-loop-at l = record {
  size : length l.ends ≡ length l.fn.ends;
  done : (p : ℕ) → p < l.at → end_at l.ends p ≡ renumbered l.pushed (end_at l.fn.ends p);
  left : (p : ℕ) → l.at ≤ p → end_at l.ends p ≡ end_at l.fn.ends p;
}
