-- Tight drawings, and the order of the points of a side in one.
use Rattle.std.specs.Prelude.{ℕ, suc, ◌+◌, ◌-◌, ◌*◌, ◌%◌, Bool, false, cond, nat_eq, nat_lt, ◌&&◌, ◌||◌, List, [], ◌∷◌, drop, map, slice_index, take, count_by}
use Rattle.std.specs.List.{enumerate_from, flat_map}
use Rattle.page_surface.specs.Drawing.{Drawing, exit, strand_exits}
use Rattle.page_surface.specs.Polygon.{Polygon, first_side, partner, second_side, sides}
use Rattle.page_surface.specs.Words.{HasNoPair, inverse}

-- each word is its own reduced form
abbrev pub IsTight : Drawing → Type 0
IsTight d = (i : ℕ) → HasNoPair d.polygon (map (λ e. e.side) (strand_exits d i))

-- Goals of a strand that enters through side e, ordered counterclockwise: the end of e, side e + 1, its end, and so on.
-- How far round side x is after side e; the end of a side comes after the side.
abbrev pub goal_side : Polygon → ℕ → ℕ → ℕ
goal_side p e x = 2 * ((x + sides p - e) % sides p)

-- the goal at the end of a side
abbrev pub goal_end : Polygon → ℕ → ℕ → ℕ
goal_end p e x = goal_side p e x + 1

-- the goals on a way that enters through e, leaves through these sides and ends at the end of side z
abbrev pub goals : Polygon → ℕ → List ℕ → ℕ → List ℕ
goals p e [] z = goal_end p e z ∷ []
goals p e (x ∷ xs) z = goal_side p e x ∷ goals p (partner p x) xs z

-- at the first goals that differ, the earlier one stands first
abbrev pub comes_first : List ℕ → List ℕ → Bool
comes_first [] ys = false
comes_first (x ∷ xs) [] = false
comes_first (x ∷ xs) (y ∷ ys) = nat_lt x y || (nat_eq x y && comes_first xs ys)

-- the goals of the two ways out of letter l of strand i: on through the side,
abbrev pub goals_on : Polygon → ℕ → List ℕ → ℕ → List ℕ
goals_on p i w l = goals p (partner p (slice_index w l)) (drop (suc l) w) (first_side p i)

-- and back through its partner
abbrev pub goals_back : Polygon → ℕ → List ℕ → ℕ → List ℕ
goals_back p i w l = goals p (slice_index w l) (inverse p (take l w)) (second_side p i)

-- the goals of all points of side k
abbrev pub goals_at : Polygon → List (List ℕ) → ℕ → List (List ℕ)
goals_at p ws k = flat_map (λ s. flat_map (λ e.
    cond (nat_eq e.1 k) (goals_on p s.0 s.1 e.0 ∷ []) (cond (nat_eq (partner p e.1) k) (goals_back p s.0 s.1 e.0 ∷ []) []))
    (enumerate_from 0 s.1)) (enumerate_from 0 ws)

-- the place of a point: how many points of the side come before it
abbrev pub tight_place : Polygon → List (List ℕ) → ℕ → List ℕ → ℕ
tight_place p ws k g = count_by (λ h. comes_first h g) (goals_at p ws k)

-- the drawing that a list of words gives
abbrev pub tight_drawing : Polygon → List (List ℕ) → Drawing
tight_drawing p ws = record {
  polygon = p;
  strands = map (λ s. map (λ e. exit e.1 (tight_place p ws e.1 (goals_on p s.0 s.1 e.0))) (enumerate_from 0 s.1)) (enumerate_from 0 ws);
}
