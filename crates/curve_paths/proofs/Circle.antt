-- The chords of a curve round the circle: where the word of their numbers reduces to nothing, no two of them cross.
use Rattle.std.proofs.Common.{◌≡◌, ◌≢◌, ℕ, zero, suc, ◌+◌, ◌-◌, ◌<◌, ◌≤◌, Bool, true, false, cond, List, [], ◌∷◌, ◌++◌, map, length, refl, sym, subst, ap, ap₂, ◌∙◌, arith}
use Rattle.std.specs.List.{flat_map, range_with_len}
use Rattle.std.proofs.lemmas.List.{map-append}
use Rattle.obd_base.specs.Lists.{Mem, below}
use Rattle.obd_base.specs.declared.points.Exit.{Exit}
use Rattle.obd_base.proofs.lists.Sums.{by_entries}
use Rattle.page_surface.specs.Drawing.{crosses, exit}
use Rattle.page_surface.specs.Polygon.{Pairs, Polygon, partner, sides}
use Rattle.curve_paths.specs.Alphabet.{Null}
use Rattle.curve_paths.specs.Curves.{IsCurve, curve_chord, curve_entry, curve_points, curve_spot, exit_at, previous}
use Rattle.curve_paths.proofs.CurvePoints.{exit_same, following, following-less, previous-less, previous-following, following-previous}
use Rattle.curve_paths.proofs.Matching.{Good, good_from_null}
use Rattle.curve_paths.proofs.Members.{mem_get_or}
use Rattle.curve_paths.proofs.PointPlaces.{number_same, points_of, points_from, points_rise, mem_points, from_points}
use Rattle.curve_paths.proofs.NameWords.{names}
use Rattle.curve_paths.proofs.NotCrossing.{not_crossing}
use Rattle.curve_paths.proofs.Passings.{IsPassed, Passing, at, out, into, across, points_are, seen_across, number_within, passed_in_range, passed_right}

-- the chord at a passing of a curve with n exits: chord i ends at exit i, and at the entry of an exit the next begins
abbrev pub chord_of : ℕ → Passing → ℕ
chord_of n a = cond a.leaves a.number (following n a.number)

-- the chords at all points in order
abbrev pub circle : ℕ → ℕ → (ℕ → List Passing) → List ℕ
circle n sides table = flat_map (λ k. map (chord_of n) (table k)) (below sides)

pub map_twice : {A B C : Type 0} (g : B → C) (h : A → B) (xs : List A) → map g (map h xs) ≡ map (λ x. g (h x)) xs
map_twice g h [] = refl
map_twice g h (x ∷ xs) = ap (λ ys. g (h x) ∷ ys) (map_twice g h xs)

-- the same, point by point
pub points_read : {A : Type 0} (count : ℕ → ℕ) (f : Exit → A) (g : ℕ → List A) (a n : ℕ)
    → ((k : ℕ) → a ≤ k → k < a + n → map f (points_from count k 0 (count k)) ≡ g k) → map f (points_of count a n) ≡ flat_map g (range_with_len a n)
points_read count f g a zero h = refl
points_read count f g a (suc n) h =
    map-append f (points_from count a 0 (count a)) (points_of count (a + 1) n)
    ∙ ap₂ (λ xs ys. xs ++ ys) (h a (omega arith) (omega arith)) (points_read count f g (a + 1) n (λ k l u. h k (omega arith) (omega arith)))

module _ (p : Polygon) (ok : Pairs p) (c : List Exit) (table : ℕ → List Passing) (passed : IsPassed p c table) where
  abbrev n : ℕ
  n = length c

  abbrev count : ℕ → ℕ
  count k = curve_points p c k

  abbrev IsPoint : Exit → Type 0
  IsPoint q = (q.side < sides p) × (q.place < curve_points p c q.side)

  -- what stands at a point
  abbrev pub here : Exit → Passing
  here q = at (table q.side) q.place

  abbrev pub letter : Exit → ℕ
  letter q = chord_of n (here q)

  abbrev pub points : List Exit
  points = points_of count 0 (sides p)

  point_in : (q : Exit) → IsPoint q → Mem q points
  point_in q i = mem_points count 0 (sides p) q (omega arith) (omega (arith, i.0)) i.1

  in_point : (q : Exit) → Mem q points → IsPoint q
  in_point q m = let r = from_points count 0 (sides p) q m in (omega (arith, r.1), r.2)

  -- the letters at the points are those of the circle
  pub letters_are : map letter points ≡ circle n (sides p) table
  letters_are = points_read count letter (λ k. map (chord_of n) (table k)) 0 (sides p) (λ k l u.
      let e : table k ≡ map (at (table k)) (below (count k)) = by_entries (out 0) (table k) (count k) (sym (points_are p ok c table passed k (omega arith))) in
      map_twice letter (exit k) (below (count k)) ∙ (sym (map_twice (chord_of n) (at (table k)) (below (count k))) ∙ ap (map (chord_of n)) (sym e)))

  -- an exit is a point, and its entry is one
  exit_point : (i : ℕ) → i < n → IsPoint (exit_at c i) × (here (exit_at c i) ≡ out i)
  exit_point i l = (passed_in_range p ok c table passed (exit_at c i) (mem_get_or c i (exit 0 0) l), (passed.listed i l).2)

  entry_point : (i : ℕ) → i < n → IsPoint (curve_entry p c (exit_at c i)) × (here (curve_entry p c (exit_at c i)) ≡ into i)
  entry_point i l =
      let e = exit_at c i in
      let ((side, place), there) = exit_point i l in
      let m = points_are p ok c table passed e.side side in
      let (size, seen) = seen_across p ok c table passed e.side e.place side (omega (arith, place, m)) in
      let m' = points_are p ok c table passed (partner p e.side) (ok.in_range e.side side) in (
        (ok.in_range e.side side, omega (arith, m, m', size, place)),
        ap (λ x. at (table (partner p e.side)) (x - 1 - e.place)) m ∙ (seen ∙ ap across there),
      )

  -- each point is one of the two
  data Which (q : Exit) : Type 0 where
    leaving : (i : ℕ) → i < n → q ≡ exit_at c i → here q ≡ out i → Which q
    entering : (i : ℕ) → i < n → q ≡ curve_entry p c (exit_at c i) → here q ≡ into i → Which q

  which : (q : Exit) → IsPoint q → Which q
  which q (side, place) = go (here q).leaves refl
    where
      m : count q.side ≡ length (table q.side)
      m = points_are p ok c table passed q.side side

      l : (here q).number < n
      l = number_within p ok c table passed q.side q.place side (omega (arith, place, m))

      go : (b : Bool) → (here q).leaves ≡ b → Which q
      go true t =
          let e : here q ≡ out (here q).number = ap (λ (b : Bool). let x : Passing = record { number = (here q).number; leaves = b } in x) t in
          leaving (here q).number l (sym (passed.made q.side q.place (here q).number side (omega (arith, place, m)) e).1) e
      go false f =
          let e : here q ≡ into (here q).number = ap (λ (b : Bool). let x : Passing = record { number = (here q).number; leaves = b } in x) f in
          let (size, seen) = seen_across p ok c table passed q.side q.place side (omega (arith, place, m)) in
          let made = (passed.made (partner p q.side) (length (table q.side) - 1 - q.place) (here q).number (ok.in_range q.side side) (omega (arith, size, place, m)) (seen ∙ ap across e)).1 in
          let m' = points_are p ok c table passed (partner p q.side) (ok.in_range q.side side) in
          let back : curve_entry p c (exit_at c (here q).number) ≡ q
          = ap (curve_entry p c) made ∙ sym (exit_same q (partner p (partner p q.side)) (count (partner p q.side) - 1 - (length (table q.side) - 1 - q.place))
          (sym (ok.twice q.side)) (omega (arith, m', size, place, m))) in
          entering (here q).number l (sym back) e

  -- the other end of the chord at a point
  abbrev pub other : Exit → Exit
  other q = let i = (here q).number in cond (here q).leaves (curve_entry p c (exit_at c (previous n i))) (exit_at c (following n i))

  other_exit : (i : ℕ) → i < n → other (exit_at c i) ≡ curve_entry p c (exit_at c (previous n i))
  other_exit i l = ap (λ (a : Passing). cond a.leaves (curve_entry p c (exit_at c (previous n a.number))) (exit_at c (following n a.number))) (exit_point i l).1

  other_entry : (i : ℕ) → i < n → other (curve_entry p c (exit_at c i)) ≡ exit_at c (following n i)
  other_entry i l = ap (λ (a : Passing). cond a.leaves (curve_entry p c (exit_at c (previous n a.number))) (exit_at c (following n a.number))) (entry_point i l).1

  letter_exit : (i : ℕ) → i < n → letter (exit_at c i) ≡ i
  letter_exit i l = ap (chord_of n) (exit_point i l).1

  letter_entry : (i : ℕ) → i < n → letter (curve_entry p c (exit_at c i)) ≡ following n i
  letter_entry i l = ap (chord_of n) (entry_point i l).1

  twice : (q : Exit) → IsPoint q → other (other q) ≡ q
  twice q h = go (which q h)
    where
      go : Which q → other (other q) ≡ q
      go (leaving i l e t) = ap (λ x. other (other x)) e ∙ (ap other (other_exit i l) ∙ (other_entry (previous n i) (previous-less n i l) ∙ (ap (exit_at c) (following-previous n i l) ∙ sym e)))
      go (entering i l e t) = ap (λ x. other (other x)) e ∙ (ap other (other_entry i l) ∙ (other_exit (following n i) (following-less n i l)
          ∙ (ap (λ x. curve_entry p c (exit_at c x)) (previous-following n i l) ∙ sym e)))

  spot_same : (x y : Exit) → IsPoint x → IsPoint y → curve_spot p c x ≡ curve_spot p c y → x ≡ y
  spot_same x y h g e = number_same count x y (omega (arith, h.1)) (omega (arith, g.1)) e

  -- of two points of one chord the second is the other end of the first
  one_chord : (x y : Exit) → IsPoint x → IsPoint y → curve_spot p c x < curve_spot p c y → letter y ≡ letter x → y ≡ other x
  one_chord x y h g l e = go (which x h) (which y g)
    where
      same : (x y : Exit) → x ≡ y → curve_spot p c x < curve_spot p c y → y ≡ other x
      same x y e l = absurd (let q = ap (curve_spot p c) e in omega (arith, q, l))

      go : Which x → Which y → y ≡ other x
      go (leaving i a u s) (leaving k b v t) =
          let q : k ≡ i = sym (letter_exit k b) ∙ (ap letter (sym v) ∙ (e ∙ (ap letter u ∙ letter_exit i a))) in
          same x y (u ∙ (ap (exit_at c) (sym q) ∙ sym v)) l
      go (leaving i a u s) (entering k b v t) =
          let q : following n k ≡ i = sym (letter_entry k b) ∙ (ap letter (sym v) ∙ (e ∙ (ap letter u ∙ letter_exit i a))) in
          v ∙ (ap (λ z. curve_entry p c (exit_at c z)) (sym (previous-following n k b) ∙ ap (previous n) q) ∙ (sym (other_exit i a) ∙ ap other (sym u)))
      go (entering i a u s) (leaving k b v t) =
          let q : k ≡ following n i = sym (letter_exit k b) ∙ (ap letter (sym v) ∙ (e ∙ (ap letter u ∙ letter_entry i a))) in
          v ∙ (ap (exit_at c) q ∙ (sym (other_entry i a) ∙ ap other (sym u)))
      go (entering i a u s) (entering k b v t) =
          let q : following n k ≡ following n i = sym (letter_entry k b) ∙ (ap letter (sym v) ∙ (e ∙ (ap letter u ∙ letter_entry i a))) in
          let r : k ≡ i = sym (previous-following n k b) ∙ (ap (previous n) q ∙ previous-following n i a) in
          same x y (u ∙ (ap (λ z. curve_entry p c (exit_at c z)) (sym r) ∙ sym v)) l

  module _ (null : Null names (circle n (sides p) table)) where
    good : Good names letter (curve_spot p c) other points
    good = good_from_null names letter (curve_spot p c) other (length points) points (omega arith) (points_rise count 0 (sides p))
        (λ x m. twice x (in_point x m)) (λ x y m k l e. one_chord x y (in_point x m) (in_point y k) l e) (subst (λ w. Null names w) (sym letters_are) null)

    abbrev start : ℕ → Exit
    start i = curve_entry p c (exit_at c (previous n i))

    start_point : (i : ℕ) → i < n → IsPoint (start i)
    start_point i l = (entry_point (previous n i) (previous-less n i l)).0

    start_letter : (i : ℕ) → i < n → letter (start i) ≡ i
    start_letter i l = letter_entry (previous n i) (previous-less n i l) ∙ following-previous n i l

    start_other : (i : ℕ) → i < n → other (start i) ≡ exit_at c i
    start_other i l = other_entry (previous n i) (previous-less n i l) ∙ ap (exit_at c) (following-previous n i l)

    -- points of two chords have different numbers
    apart : (a b : ℕ) (x y : Exit) → a < b → IsPoint x → IsPoint y → letter x ≡ a → letter y ≡ b → curve_spot p c y ≢ curve_spot p c x
    apart a b x y l h g e f q = let r : a ≡ b = sym e ∙ (ap letter (sym (spot_same y x g h q)) ∙ f) in omega (arith, r, l)

    between : (x x' y y' : Exit) → IsPoint x → IsPoint y → other x ≡ x' → other y ≡ y' → curve_spot p c x < curve_spot p c y → curve_spot p c y < curve_spot p c x'
        → (curve_spot p c x < curve_spot p c y') × (curve_spot p c y' < curve_spot p c x')
    between x x' y y' h g e f u v =
        let s = ap (curve_spot p c) e in
        let t = ap (curve_spot p c) f in
        let z = good.uncrossed x y (point_in x h) (point_in y g) u (omega (arith, v, s)) in
        (omega (arith, z.0, t), omega (arith, z.1, s, t))

    -- no two chords cross
    pub uncrossed_from_null : (a b : ℕ) → a < b → b < length c → crosses (curve_chord p c a) (curve_chord p c b) ≡ false
    uncrossed_from_null a b l lb =
        let la : a < n = omega arith in
        let sa = start_point a la in
        let sb = start_point b lb in
        let ea = (exit_point a la).0 in
        let eb = (exit_point b lb).0 in
        not_crossing (curve_chord p c a) (curve_chord p c b)
        (apart a b (start a) (start b) l sa sb (start_letter a la) (start_letter b lb))
        (apart a b (exit_at c a) (start b) l ea sb (letter_exit a la) (start_letter b lb))
        (apart a b (start a) (exit_at c b) l sa eb (start_letter a la) (letter_exit b lb))
        (apart a b (exit_at c a) (exit_at c b) l ea eb (letter_exit a la) (letter_exit b lb))
        (between (start a) (exit_at c a) (start b) (exit_at c b) sa sb (start_other a la) (start_other b lb))
        (between (exit_at c a) (start a) (start b) (exit_at c b) ea sb (other_exit a la) (start_other b lb))
        (between (start a) (exit_at c a) (exit_at c b) (start b) sa eb (start_other a la) (other_exit b lb))
        (between (exit_at c a) (start a) (exit_at c b) (start b) ea eb (other_exit a la) (other_exit b lb))

    -- so the exits are a curve
    pub curve_from_null : IsCurve p c
    curve_from_null = record {
      in_range = passed_in_range p ok c table passed;
      right = passed_right p ok c table passed;
      uncrossed = uncrossed_from_null;
    }
