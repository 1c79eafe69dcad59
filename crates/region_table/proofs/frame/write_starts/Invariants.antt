use Rattle.std.proofs.Common.{◌≡◌, ℕ, ◌+◌, ◌<◌, ◌≤◌, length, get_or}
use Rattle.region_table.specs.FingerLists.{begins_later}
use Rattle.region_table.proofs.frame.write_starts.Given as goal

-- the sides so far begin where they do afterwards, and the others stay
abbrev pub invariant-loop-side : goal.invariant-loop-side
invariant-loop-side l = record {
  size : length l.starts ≡ length l.fn.starts;
  done : (k : ℕ) → k < l.side → get_or l.starts k 0 ≡ get_or l.fn.starts k 0 + begins_later l.one l.other k;
  left : (k : ℕ) → l.side ≤ k → get_or l.starts k 0 ≡ get_or l.fn.starts k 0;
}
