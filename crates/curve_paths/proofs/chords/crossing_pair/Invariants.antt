use Rattle.std.proofs.Common.{◌≡◌, ℕ, ◌<◌, ◌-◌, suc, length, None, find}
use Rattle.std.specs.List.{range_with_len}
use Rattle.curve_paths.specs.PathRules.{do_cross, pair}
use Rattle.curve_paths.proofs.chords.crossing_pair.Given as goal

-- the chords so far aren't crossed by any after them
abbrev pub invariant-loop-first : goal.invariant-loop-first
invariant-loop-first l = (k : ℕ) → k < l.first → find (λ j. do_cross l.chords (pair k j)) (range_with_len (suc k) (length l.chords - suc k)) ≡ None
