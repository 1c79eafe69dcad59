-- The strategy: burst after burst until the drawing is nice.
use Rattle.std.specs.Prelude.{◌≡◌, ℕ, zero, suc, ◌-◌, false, true, nat_lt, ◌||◌, List, [], ◌++◌, length, Option, None, Some}
use Rattle.page_surface.specs.Drawing.{Drawing}
use Rattle.drawing.specs.declared.finger.Finger.{Finger}
use Rattle.drawing.specs.Fingers.{replayed}
use Rattle.region_table.specs.Nice.{is_nice, weight}
use Rattle.nice_plan.specs.Burst.{burst}

-- the strategy's list of fingers
pub data IsStrategy : Drawing → List Finger → Type 0 where
  nice : {d : Drawing} → is_nice d ≡ true → IsStrategy d []
  bursts : {d : Drawing} {fs : List Finger} → is_nice d ≡ false → IsStrategy (replayed d (burst d)) fs → IsStrategy d (burst d ++ fs)

-- bursts one after another until the drawing is nice, at most n of them
abbrev pub bursts_of : ℕ → Drawing → List Finger
bursts_of zero d = []
bursts_of (suc n) d = elim (is_nice d) [ true ↦ [] | false ↦ burst d ++ bursts_of n (replayed d (burst d)) ]

-- how many
abbrev pub burst_count : ℕ → Drawing → ℕ
burst_count zero d = 0
burst_count (suc n) d = elim (is_nice d) [ true ↦ 0 | false ↦ suc (burst_count n (replayed d (burst d))) ]

-- the strategy's list, as it computes: as many bursts as the weight are enough
abbrev pub strategy : Drawing → List Finger
strategy d = bursts_of (weight d) d

-- the next burst, where there is one
abbrev pub next_burst : Drawing → Option (List Finger)
next_burst d = elim (is_nice d) [ true ↦ None | false ↦ Some (burst d) ]

-- the bursts that fit whole within a limit of fingers, at most n of them
abbrev pub fitting : ℕ → ℕ → Drawing → List Finger
fitting zero limit d = []
fitting (suc n) limit d = elim (is_nice d || nat_lt limit (length (burst d))) [
  | true ↦ []
  | false ↦ burst d ++ fitting n (limit - length (burst d)) (replayed d (burst d))
]

-- all of them, since there are no more bursts than the weight
abbrev pub within_limit : ℕ → Drawing → List Finger
within_limit limit d = fitting (weight d) limit d
