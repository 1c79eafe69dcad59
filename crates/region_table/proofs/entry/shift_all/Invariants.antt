use Rattle.std.proofs.Common.{◌≡◌, ℕ, ◌<◌, ◌≤◌, length, get_or}
use Rattle.region_table.specs.FingerLists.{shifted}
use Rattle.region_table.proofs.entry.shift_all.Given as goal

-- the numbers so far are shifted, and the others stay
abbrev pub invariant-loop-at : goal.invariant-loop-at
invariant-loop-at l = record {
  size : length l.numbers ≡ length l.fn.numbers;
  done : (p : ℕ) → p < l.at → get_or l.numbers p 0 ≡ shifted l.entry.entered l.entry.beyond (get_or l.fn.numbers p 0);
  left : (p : ℕ) → l.at ≤ p → get_or l.numbers p 0 ≡ get_or l.fn.numbers p 0;
}
