use Rattle.std.proofs.Common.{◌≡◌, ℕ, ◌<◌, ◌≤◌, length, get_or}
use Rattle.region_table.specs.FingerLists.{comes_in_front, renamed_part}
use Rattle.region_table.proofs.entries.rename_part.Given as goal

-- the names so far are those afterwards, and the others stay
abbrev pub invariant-loop-span : goal.invariant-loop-span
invariant-loop-span l = record {
  size : length l.names ≡ length l.fn.names;
  done : (s : ℕ) → s < l.span → get_or l.names s 0 ≡ renamed_part l.split.piece l.split.part (comes_in_front l.split.from l.split.entered) (λ s. get_or l.fn.names s 0) s;
  left : (s : ℕ) → l.span ≤ s → get_or l.names s 0 ≡ get_or l.fn.names s 0;
}
