use Rattle.std.proofs.Common.{◌≡◌, ℕ, ◌<◌, ◌≤◌, get_or}
use Rattle.drawing.specs.PushTables.{raised_side}
use Rattle.drawing.proofs.push.raise_sides.Given as goal

-- the sides so far begin where they are to, and the others where they did
abbrev pub invariant-loop-side : goal.invariant-loop-side
invariant-loop-side l = record {
  so_far : (k : ℕ) → k < l.side → get_or l.offsets k 0 ≡ raised_side l.near.side l.far.side k (get_or l.fn.offsets k 0);
  left : (k : ℕ) → l.side ≤ k → get_or l.offsets k 0 ≡ get_or l.fn.offsets k 0;
}
