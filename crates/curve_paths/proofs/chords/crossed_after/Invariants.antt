use Rattle.std.proofs.Common.{◌≡◌, ℕ, ◌<◌, ◌≤◌, suc, false}
use Rattle.curve_paths.specs.PathRules.{do_cross, pair}
use Rattle.curve_paths.proofs.chords.crossed_after.Given as goal

-- the chords so far don't cross the first
abbrev pub invariant-loop-second : goal.invariant-loop-second
invariant-loop-second l = (k : ℕ) → suc l.first ≤ k → k < l.second → do_cross l.chords (pair l.first k) ≡ false
