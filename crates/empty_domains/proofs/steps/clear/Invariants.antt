use Rattle.std.proofs.Common.{◌≡◌, ℕ, ◌<◌, get_or, length}
use Rattle.empty_domains.proofs.steps.clear.Given as goal

-- the sides so far
abbrev pub invariant-loop-side : goal.invariant-loop-side
invariant-loop-side l = record {
  size : length l.lasts ≡ length l.initial.lasts;
  none : (k : ℕ) → k < l.side → get_or l.lasts k 0 ≡ 0;
}
