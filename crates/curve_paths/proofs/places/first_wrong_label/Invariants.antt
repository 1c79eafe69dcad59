use Rattle.std.proofs.Common.{◌≡◌, ℕ, ◌<◌, not, false}
use Rattle.curve_paths.specs.Paths.{has_label_places}
use Rattle.curve_paths.proofs.places.first_wrong_label.Given as goal

-- the labels so far have right places
abbrev pub invariant-loop-label : goal.invariant-loop-label
invariant-loop-label l = (k : ℕ) → k < l.label → not (has_label_places l.crossings k) ≡ false
