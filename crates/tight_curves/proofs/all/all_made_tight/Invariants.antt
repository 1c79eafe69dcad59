use Rattle.std.proofs.Common.{◌≡◌, ℕ, [], length, map, take, slice_index_or}
use Rattle.curve_paths.specs.Twists.{exits_of}
use Rattle.tight_curves.specs.Parts.{MadeTight}
use Rattle.tight_curves.proofs.all.all_made_tight.Given as goal

-- each curve so far is made tight
abbrev pub invariant-loop-curve : goal.invariant-loop-curve
invariant-loop-curve l =
    (length l.made ≡ l.curve-index)
    × ((i : ℕ) → MadeTight l.polygon (slice_index_or (map exits_of (take l.curve-index l.curves)) i []) (slice_index_or (map exits_of l.made) i []))
