-- Curves, the words read along them, and the action of a twist on words.
use Rattle.std.specs.Prelude.{◌≡◌, ℕ, suc, ◌+◌, ◌-◌, ◌%◌, ◌<◌, Bool, false, cond, nat_eq, nat_lt, ◌&&◌, not, List, [], ◌∷◌, ◌++◌, map, length, slice_index_or, take, drop, count_by}
use Rattle.std.specs.List.{enumerate_from, flat_map, list_all, position_or_len, sum_by}
use Rattle.obd_base.specs.Lists.{Mem, below}
use Rattle.obd_base.specs.declared.points.Exit.{Exit}
use Rattle.obd_base.specs.declared.points.Sign.{Sign}
use Rattle.obd_base.specs.declared.points.Sign.TheVariants.{Plus, Minus}
use Rattle.page_surface.specs.Drawing.{Chord, crosses, exit, is_at}
use Rattle.page_surface.specs.Polygon.{IsPolygon, Polygon, arc_count, first_side, partner, second_side, sides}
use Rattle.page_surface.specs.Words.{inverse, reduced}

-- the points of the curve on a side: its exits, and its entries there
abbrev pub curve_points : Polygon → List Exit → ℕ → ℕ
curve_points p c k = count_by (λ e. nat_eq e.side k) c + count_by (λ e. nat_eq (partner p e.side) k) c

-- the entry that belongs to an exit
abbrev pub curve_entry : Polygon → List Exit → Exit → Exit
curve_entry p c e = exit (partner p e.side) (curve_points p c e.side - 1 - e.place)

-- how often an exit makes the point at a place of a side, as exit or as entry
abbrev pub curve_stands : Polygon → List Exit → Exit → ℕ → ℕ → ℕ
curve_stands p c e k j =
    cond (is_at e k j) 1 0
    + cond (nat_eq (partner p e.side) k && nat_eq (suc (e.place + j)) (curve_points p c k)) 1 0

-- the number of a curve's point in the place order: two more numbers on each side, as in drawings
abbrev pub curve_spot : Polygon → List Exit → Exit → ℕ
curve_spot p c e = sum_by (λ i. curve_points p c i + 2) (below e.side) + e.place

-- exit i of the curve
abbrev pub exit_at : List Exit → ℕ → Exit
exit_at c i = slice_index_or c i (exit 0 0)

-- the exit before exit i, read cyclically
abbrev pub previous : ℕ → ℕ → ℕ
previous n i = cond (nat_eq i 0) (n - 1) (i - 1)

-- chord i runs from the entry of the exit before exit i to exit i
abbrev pub curve_chord : Polygon → List Exit → ℕ → Chord
curve_chord p c i = record {
  from = curve_spot p c (curve_entry p c (exit_at c (previous (length c) i)));
  to = curve_spot p c (exit_at c i);
}

-- a cyclic list of exits whose places are right and whose chords don't cross
pub record IsCurve (p : Polygon) (c : List Exit) : Type 0 where
  pub in_range : (e : Exit) → Mem e c → (e.side < sides p) × (e.place < curve_points p c e.side)
  pub right : (k j : ℕ) → k < sides p → j < curve_points p c k → sum_by (λ e. curve_stands p c e k j) c ≡ 1
  pub uncrossed : (a b : ℕ) → a < b → b < length c → crosses (curve_chord p c a) (curve_chord p c b) ≡ false

-- that is a curve of some polygon
pub record IsSomeCurve (c : List Exit) : Type 0 where
  pub polygon : Polygon
  pub is_polygon : IsPolygon polygon
  pub is_curve : IsCurve polygon c

-- the same as a test
abbrev pub is_curve_list : Polygon → List Exit → Bool
is_curve_list p c =
    list_all (λ e. nat_lt e.side (sides p) && nat_lt e.place (curve_points p c e.side)) c
    && (list_all (λ k. list_all (λ j. nat_eq (sum_by (λ e. curve_stands p c e k j) c) 1) (below (curve_points p c k))) (below (sides p))
    && list_all (λ b. list_all (λ a. not (crosses (curve_chord p c a) (curve_chord p c b))) (below b)) (below (length c)))

-- a list read round from place i on
abbrev pub turned : {A : Type 0} → ℕ → List A → List A
turned i w = drop i w ++ take i w

-- the cyclic word of the curve, read from its point j on side k in the direction that leaves through k
abbrev pub rho : Polygon → List Exit → ℕ → ℕ → List ℕ
rho p c k j =
    let w = map (λ e. e.side) c in
    let leaves = position_or_len (λ e. is_at e k j) c in
    let enters = position_or_len (λ e. is_at (curve_entry p c e) k j) c in
    cond (nat_lt leaves (length c)) (turned leaves w) (inverse p (turned (suc enters) w))

-- a word for a positive twist, its inverse for a negative one
abbrev pub signed : Polygon → Sign → List ℕ → List ℕ
signed p Plus w = w
signed p Minus w = inverse p w

-- the push along side k: the product over the curve's points on the side, in order
abbrev pub push_at : Polygon → List Exit → Sign → ℕ → List ℕ
push_at p c sign k = flat_map (λ j. signed p sign (rho p c k j)) (below (curve_points p c k))

-- the sides passed counterclockwise from gap u to gap v, none where they are one gap
abbrev pub passed : Polygon → ℕ → ℕ → List ℕ
passed p u v = let n = sides p in map (λ i. (u + 1 + i) % n) (below ((v + n - u) % n))

-- the gap before a side
abbrev pub gap_before : Polygon → ℕ → ℕ
gap_before p s = (s + sides p - 1) % sides p

-- a word that runs from gap u to gap v, with a word set for each side that is passed
abbrev pub with_words : Polygon → (ℕ → List ℕ) → List ℕ → ℕ → ℕ → List ℕ
with_words p set [] u v = flat_map set (passed p u v)
with_words p set (s ∷ w) u v = flat_map set (passed p u (gap_before p s)) ++ (s ∷ with_words p set w (partner p s) v)

-- the image of a word under a twist: along each side that is passed its push is set
abbrev pub image : Polygon → List Exit → Sign → List ℕ → ℕ → ℕ → List ℕ
image p c sign w u v = with_words p (push_at p c sign) w u v

-- one single twist on the words of all strands; strand i runs from the gap after its arc's second side to the gap after its first side
abbrev pub twisted : Polygon → List Exit → Sign → List (List ℕ) → List (List ℕ)
twisted p c sign ws =
    map (λ e. reduced p (image p c sign e.1 (second_side p e.0) (first_side p e.0))) (enumerate_from 0 ws)

-- in the identity drawing the strand of an arc has the one letter of its second side
abbrev pub identity_words : Polygon → List (List ℕ)
identity_words p = map (λ i. second_side p i ∷ []) (below (arc_count p))
