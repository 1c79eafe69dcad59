use Rattle.std.proofs.Common.{◌≡◌, ℕ, ◌≤◌, length, get_or}
use Rattle.page_surface.specs.Drawing.{Drawing}
use Rattle.region_table.specs.Told.{IsUnmeasured}
use Rattle.region_table.proofs.DistanceFall.{IsFalling}
use Rattle.region_table.proofs.DistanceRise.{IsRising}
use Rattle.region_table.proofs.measure.measure.Given as goal

-- from right to left
abbrev pub invariant-loop-at : goal.invariant-loop-at
invariant-loop-at l = record {
  inside : l.at ≤ length l.mates;
  size : length l.labels ≡ length l.fn.labels;
  within : (p : ℕ) → get_or l.labels p 0 ≤ l.fn.bound;
  falling : (d : Drawing) (given : IsUnmeasured d l.fn.names l.fn.mates l.fn.labels l.fn.bound)
      → IsFalling d given.embedded (λ s. get_or l.fn.names s 0) given.naming l.fn.bound (λ p. get_or l.labels p 0) l.at;
}

-- what is left
abbrev pub decreases-loop-at : goal.decreases-loop-at
decreases-loop-at l = l.at

-- from left to right
abbrev pub invariant-loop-at-2 : goal.invariant-loop-at-2
invariant-loop-at-2 l = record {
  size : length l.labels ≡ length l.fn.labels;
  within : (p : ℕ) → get_or l.labels p 0 ≤ l.fn.bound;
  rising : (d : Drawing) (given : IsUnmeasured d l.fn.names l.fn.mates l.fn.labels l.fn.bound)
      → IsRising d given.embedded (λ s. get_or l.fn.names s 0) given.naming l.fn.bound (λ p. get_or l.labels p 0) l.at;
}
