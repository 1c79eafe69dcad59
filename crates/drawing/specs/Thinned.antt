-- A drawing in which many points are taken out at once, each under both its names.
use Rattle.std.specs.Prelude.{◌≡◌, ℕ, ◌+◌, ◌-◌, ◌<◌, Bool, false, nat_eq, ◌||◌, not, List, filter, map, length, count_by}
use Rattle.obd_base.specs.Lists.{below}
use Rattle.obd_base.specs.declared.points.Exit.{Exit}
use Rattle.page_surface.specs.Drawing.{Drawing, all_exits, entry, exit, points_on, spot}
use Rattle.page_surface.specs.Polygon.{partner, sides}
use Rattle.drawing.specs.Pieces.{span_count}
use Rattle.drawing.specs.Turns.{Loosened}

-- how many points of side k below place j stay
abbrev pub places_kept : Drawing → (ℕ → Bool) → ℕ → ℕ → ℕ
places_kept d gone k j = count_by (λ i. not (gone (spot d (exit k i)))) (below j)

-- an exit that stays, numbered anew
abbrev pub thinned_exit : Drawing → (ℕ → Bool) → Exit → Exit
thinned_exit d gone e = exit e.side (places_kept d gone e.side e.place)

-- the exits of a strand that stay
abbrev pub thinned_exits : Drawing → (ℕ → Bool) → List Exit → List Exit
thinned_exits d gone es = map (thinned_exit d gone) (filter (λ e. not (gone (spot d e))) es)

-- the drawing in which the points whose numbers are gone are taken out, and the others are numbered anew
abbrev pub thinned : Drawing → (ℕ → Bool) → Drawing
thinned d gone = record { polygon = d.polygon; strands = map (thinned_exits d gone) d.strands }

-- each point is gone under both its names or under neither
abbrev pub IsAlike : Drawing → (ℕ → Bool) → Type 0
IsAlike d gone = (k j : ℕ) → k < sides d.polygon → j < points_on d k
    → gone (spot d (exit k j)) ≡ gone (spot d (exit (partner d.polygon k) (points_on d k - 1 - j)))

-- what is gone, and the two points of a turn under both their names
abbrev pub turn_gone : Drawing → Exit → Exit → (ℕ → Bool) → ℕ → Bool
turn_gone d out back gone x =
    gone x || (nat_eq x (spot d out) || (nat_eq x (spot d (entry d out)) || (nat_eq x (spot d back) || nat_eq x (spot d (entry d back)))))

-- what is gone are so many turns: each point under both its names; without them the drawing is reached by turns taken
-- out and has two exits fewer for each; and where there is none nothing is gone
pub record TurnsGone (d : Drawing) (gone : ℕ → Bool) (turns : ℕ) : Type 0 where
  pub alike : IsAlike d gone
  pub loosened : Loosened d (thinned d gone)
  pub fewer : length (all_exits (thinned d gone)) + (turns + turns) ≡ length (all_exits d)
  pub none : turns ≡ 0 → (x : ℕ) → x < span_count d → gone x ≡ false
