use Rattle.std.proofs.Common.{◌≡◌, ◌+◌, ◌<◌, ◌≤◌, ℕ, get_or}
use Rattle.std.specs.List.{sum_by}
use Rattle.obd_base.specs.Lists.{below}
use Rattle.drawing.specs.ThinTables.{points_left}
use Rattle.drawing.proofs.thinning.move_sides.Given as goal

-- the sides so far begin where they are to, and the others where they did
abbrev pub invariant-loop-side : goal.invariant-loop-side
invariant-loop-side l = record {
  so_far : (k : ℕ) → k < l.side → get_or l.offsets k 0 ≡ sum_by (λ i. points_left l.places l.fn.offsets i + 2) (below k);
  left : (k : ℕ) → l.side ≤ k → get_or l.offsets k 0 ≡ get_or l.fn.offsets k 0;
}
