use Rattle.std.proofs.Common.{◌≡◌, ℕ, ◌<◌, false, not, get_or}
use Rattle.curve_paths.specs.Paths.{is_known}
use Rattle.curve_paths.proofs.Numbers.{nowhere}
use Rattle.curve_paths.proofs.crossing.first_unknown.Given as goal

-- the crossings so far name labels
abbrev pub invariant-loop-at : goal.invariant-loop-at
invariant-loop-at l = (k : ℕ) → k < l.at → not (is_known l.page (get_or l.path k nowhere)) ≡ false
