use Rattle.std.proofs.Common.{◌≡◌, ℕ, ◌<◌, not, false}
use Rattle.curve_paths.specs.Paths.{is_within}
use Rattle.curve_paths.proofs.chords.first_apart.Given as goal

-- the chords so far lie on one polygon each
abbrev pub invariant-loop-at : goal.invariant-loop-at
invariant-loop-at l = (k : ℕ) → k < l.at → not (is_within l.page l.crossings k) ≡ false
