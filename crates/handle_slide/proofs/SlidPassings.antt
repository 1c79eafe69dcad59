-- The passings of a curve after a slide.
use Rattle.std.proofs.Common.{◌≡◌, ◌≢◌, ℕ, suc, ◌+◌, ◌-◌, ◌<◌, Bool, true, false, cond, eqb, not, List, [], ◌∷◌, map, length, reverse, get_or, refl, sym, ap, ap₂, ◌∙◌, ◌⊎◌, inl, inr, arith}
use Rattle.std.proofs.lemmas.Bool.{eq-eqb, eqb-true, ne_eqb, or_cases, or_left, or_right, and_parts, and_from}
use Rattle.std.proofs.lemmas.List.{get_or-map, length-map, reverse-reverse}
use Rattle.obd_base.specs.Lists.{Mem}
use Rattle.obd_base.specs.declared.points.Exit.{Exit}
use Rattle.obd_base.proofs.lists.Below.{bit}
use Rattle.page_surface.specs.Drawing.{exit}
use Rattle.page_surface.specs.Polygon.{IsPolygon, Polygon, partner, sides}
use Rattle.curve_paths.specs.Curves.{IsCurve, curve_entry, exit_at}
use Rattle.handle_slide.specs.Slide.{is_inside, is_slid, new_number, new_place, new_side_points, side_after, slid_sides}
use Rattle.handle_slide.proofs.NewSide.{here, keeps, new_at, new_point, point_new, rows}
use Rattle.handle_slide.proofs.NewNumbers.{old_new}
use Rattle.handle_slide.proofs.Order.{after_less, after_moves, not_own}
use Rattle.handle_slide.proofs.SlidExits.{post, pre, start}
use Rattle.curve_paths.proofs.Circle.{chord_of, map_twice}
use Rattle.curve_paths.proofs.CurvePassings.{curve_passed, passing_entry, passing_exit}
use Rattle.curve_paths.proofs.NameWords.{map_reverse}
use Rattle.curve_paths.proofs.Passings.{IsPassed, Passing, across, all_across, at, into, out}
use Rattle.curve_paths.proofs.CurvePoints.{entry_in, exit_in, following, made, Made as MadePoint, leaving, entering}

-- seen from the other side twice
pub across_twice : (xs : List Passing) → all_across (all_across xs) ≡ xs
across_twice xs =
    ap reverse (map_reverse across (map across xs)) ∙ (reverse-reverse (map across (map across xs)) ∙ (map_twice across across xs ∙ same xs))
  where
    twice : (b : Bool) → not (not b) ≡ b
    twice true = refl
    twice false = refl

    same : (xs : List Passing) → map (λ a. across (across a)) xs ≡ xs
    same [] = refl
    same (a ∷ xs) = ap₂ (λ (b : Bool) ys. let x : Passing = record { number = a.number; leaves = b } in x ∷ ys) (twice a.leaves) (same xs)

module _ (p : Polygon) (is : IsPolygon p) (k : ℕ) (lk : k < sides p) (slides : side_after p k ≢ partner p k) (c : List Exit) (curve : IsCurve p c) where
  abbrev n : ℕ
  n = length c

  abbrev pk : ℕ
  pk = partner p k

  abbrev k1 : ℕ
  k1 = side_after p k

  pub moves : side_after p k ≢ k
  moves = after_moves p is k lk slides

  pub less : side_after p k < sides p
  less = after_less p is k lk slides

  abbrev pub points : List Exit
  points = new_side_points p k c

  -- what passes at a point, and through a side
  abbrev pub at_point : Exit → Passing
  at_point q = here p is k moves lk less c curve q

  abbrev pub row : ℕ → List Passing
  row s = rows p is k moves lk less c curve s

  abbrev pub stays : Passing → Bool
  stays a = keeps p is k moves lk less c curve a

  pub passed : IsPassed p c (λ s. rows p is k moves lk less c curve s)
  passed = curve_passed p is.pairs c curve

  -- a passing through the new side, and one through another side, by the new exits
  abbrev pub on_new : Passing → Passing
  on_new a = record { number = cond a.leaves (start p k c a.number) (start p k c (suc a.number) - 1); leaves = a.leaves }

  abbrev pub as_own : Passing → Passing
  as_own a = record { number = start p k c a.number + bit (pre p k c a.number); leaves = a.leaves }

  abbrev pub new_passings : List Passing
  new_passings = map (λ q. on_new (at_point q)) (new_side_points p k c)

  -- the passings through a side after the slide, by its old number, and by its new one
  abbrev pub row_after : ℕ → List Passing
  row_after s = cond (eqb s k) new_passings (cond (eqb s (partner p k)) (all_across new_passings) (map as_own (row s)))

  abbrev pub table_after : ℕ → List Passing
  table_after i = row_after (get_or (slid_sides p k) i 0)

  pub many : length new_passings ≡ length points
  many = length-map points (λ q. on_new (at_point q))

  pub new_passing_at : (q : Exit) → Mem q points → (new_place p k c q < length new_passings) × (at new_passings (new_place p k c q) ≡ on_new (at_point q))
  new_passing_at q m =
      let r = new_at p is k moves lk less c curve q m in (
        omega (arith, r.0, many),
        get_or-map (λ q. on_new (at_point q)) points (new_place p k c q) (exit 0 0) (out 0) r.0 ∙ ap (λ x. on_new (at_point x)) r.1,
      )

  pub row_of_k : row_after k ≡ new_passings
  row_of_k = ap (λ b. cond b new_passings (cond (eqb k pk) (all_across new_passings) (map as_own (row k)))) (eq-eqb k k refl)

  pub row_of_partner : row_after (partner p k) ≡ all_across new_passings
  row_of_partner =
      ap (λ b. cond b new_passings (cond (eqb pk pk) (all_across new_passings) (map as_own (row pk)))) (ne_eqb pk k (not_own p is k lk slides))
      ∙ ap (λ b. cond b (all_across new_passings) (map as_own (row pk))) (eq-eqb pk pk refl)

  pub row_of_other : (s : ℕ) → eqb s k ≡ false → eqb s (partner p k) ≡ false → row_after s ≡ map as_own (row s)
  row_of_other s e f = ap (λ b. cond b new_passings (cond (eqb s pk) (all_across new_passings) (map as_own (row s)))) e ∙ ap (λ b. cond b (all_across new_passings) (map as_own (row s))) f

  pub at_new_number : (s : ℕ) → s < sides p → table_after (new_number p k s) ≡ row_after s
  at_new_number s l = ap row_after (old_new p is k lk slides s l)

  -- a point on one of the two sides
  on_two : (s : ℕ) → is_slid p k s ≡ true → (s ≡ k) ⊎ (s ≡ side_after p k)
  on_two s h = elim (or_cases (eqb s k) (eqb s k1) h) [ inl t ↦ inl (eqb-true s k t) | inr t ↦ inr (eqb-true s k1 t) ]

  two_slid : (s : ℕ) → (s ≡ k) ⊎ (s ≡ side_after p k) → is_slid p k s ≡ true
  two_slid s (inl e) = or_left (eqb s k) (eqb s k1) (eq-eqb s k e)
  two_slid s (inr e) = or_right (eqb s k) (eqb s k1) (eq-eqb s k1 e)

  pub exit_there : (i : ℕ) → i < n → pre p k c i ≡ true → Mem (exit_at c i) points
  exit_there i l t =
      let r = and_parts (is_slid p k (exit_at c i).side) (not (is_inside p k c i)) t in
      point_new p is k moves lk less c curve (exit_at c i) (exit_in p is.pairs c curve i l) (on_two _ r.0)
      (ap (λ a. not (is_inside p k c (chord_of n a))) (passing_exit p is.pairs c curve i l) ∙ r.1)

  pub entry_there : (i : ℕ) → i < n → post p k c i ≡ true → Mem (curve_entry p c (exit_at c i)) points
  entry_there i l t =
      let r = and_parts (is_slid p k (partner p (exit_at c i).side)) (not (is_inside p k c (following n i))) t in
      point_new p is k moves lk less c curve (curve_entry p c (exit_at c i)) (entry_in p is.pairs c curve (exit_at c i) (exit_in p is.pairs c curve i l)) (on_two _ r.0)
      (ap (λ a. not (is_inside p k c (chord_of n a))) (passing_entry p is.pairs c curve i l) ∙ r.1)

  -- a point of the new side is an exit or an entry that leads through it
  pub data Comes (q : Exit) : Type 0 where
    as_exit : (i : ℕ) → i < n → q ≡ exit_at c i → at_point q ≡ out i → pre p k c i ≡ true → Comes q
    as_entry : (i : ℕ) → i < n → q ≡ curve_entry p c (exit_at c i) → at_point q ≡ into i → post p k c i ≡ true → Comes q

  pub comes : (q : Exit) → Mem q points → Comes q
  comes q m = go (made p is.pairs c curve q (new_point p is k moves lk less c curve q m).0)
    where
      side_of : (q.side ≡ k) ⊎ (q.side ≡ side_after p k)
      side_of = (new_point p is k moves lk less c curve q m).1

      stay : stays (at_point q) ≡ true
      stay = (new_point p is k moves lk less c curve q m).2

      go : MadePoint p is.pairs c curve q → Comes q
      go (leaving i l e) =
          let t : at_point q ≡ out i = ap at_point e ∙ passing_exit p is.pairs c curve i l in
          as_exit i l e t (and_from _ _ (ap (λ (x : Exit). is_slid p k x.side) (sym e) ∙ two_slid q.side side_of) (sym (ap stays t) ∙ stay))
      go (entering i l e) =
          let t : at_point q ≡ into i = ap at_point e ∙ passing_entry p is.pairs c curve i l in
          as_entry i l e t (and_from _ _ (ap (λ (x : Exit). is_slid p k x.side) (sym e) ∙ two_slid q.side side_of) (sym (ap stays t) ∙ stay))
