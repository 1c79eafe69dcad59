-- The tables by which many points are taken out at once.
use Rattle.std.specs.Prelude.{◌≡◌, ℕ, suc, ◌+◌, ◌-◌, ◌<◌, ◌≤◌, Bool, false, nat_eq, ◌||◌, not, List, filter, map, length, slice_index_or}
use Rattle.std.specs.List.{sum_by}
use Rattle.obd_base.specs.Lists.{below}
use Rattle.obd_base.specs.declared.points.Exit.{Exit}
use Rattle.page_surface.specs.Drawing.{Drawing, entry, exit, offset, points_on, spot}
use Rattle.drawing.specs.Thinned.{places_kept}

-- what is gone, by a table
abbrev pub is_gone : List Bool → ℕ → Bool
is_gone table x = slice_index_or table x false

-- a point is taken out, under both its names, and nothing else
abbrev pub IsPointGone : Drawing → Exit → List Bool → List Bool → Type 0
IsPointGone d e old new = (x : ℕ) → is_gone new x ≡ (is_gone old x || (nat_eq x (spot d e) || nat_eq x (spot d (entry d e))))

-- the new places of the points of the first sides, and of the ends of these sides, by the numbers of the place order
pub record AreNumbered (d : Drawing) (gone : ℕ → Bool) (sides : ℕ) (places : List ℕ) : Type 0 where
  pub each : (k j : ℕ) → k < sides → j ≤ points_on d k → slice_index_or places (offset d k + j) 0 ≡ places_kept d gone k j

-- the number of an exit, from where each side begins
abbrev pub number_of : List ℕ → Exit → ℕ
number_of offsets e = slice_index_or offsets e.side 0 + e.place

-- the exits that stay, by these tables
abbrev pub thinned_by : List ℕ → List Bool → List ℕ → List Exit → List Exit
thinned_by offsets gone places es =
    map (λ e. exit e.side (slice_index_or places (number_of offsets e) 0)) (filter (λ e. not (is_gone gone (number_of offsets e))) es)

-- an exit that these tables know
pub record IsKnown (offsets : List ℕ) (gone : List Bool) (places : List ℕ) (e : Exit) : Type 0 where
  pub side : e.side < length offsets
  pub gone_there : number_of offsets e < length gone
  pub place_there : number_of offsets e < length places

-- how many points of a side stay: the new place of its end, which has the number before the gap
abbrev pub points_left : List ℕ → List ℕ → ℕ → ℕ
points_left places offsets k = slice_index_or places (slice_index_or offsets (suc k) 0 - 2) 0

-- where each side begins then
abbrev pub moved_offsets : List ℕ → List ℕ → List ℕ
moved_offsets places offsets = map (λ k. sum_by (λ i. points_left places offsets i + 2) (below k)) (below (length offsets))
