-- The points of the new side, and what passes at them.
use Rattle.std.proofs.Common.{◌≡◌, ◌≢◌, ℕ, zero, suc, ◌<◌, Bool, true, false, cond, ◌||◌, not, List, [], ◌∷◌, ◌++◌, map, length, filter, get_or, refl, sym, subst, ap, ap₂, ◌∙◌, ◌⊎◌, inl, inr, arith}
use Rattle.std.specs.List.{list_any}
use Rattle.std.proofs.lemmas.Bool.{false≢true, or_cases}
use Rattle.std.proofs.lemmas.List.{map-append}
use Rattle.std.proofs.lemmas.List.Sums.{position_or_len_is}
use Rattle.obd_base.specs.Lists.{Mem, Once, below}
use Rattle.obd_base.specs.declared.points.Exit.{Exit}
use Rattle.obd_base.proofs.lists.Below.{below_mem, mem_below, once_range}
use Rattle.obd_base.proofs.lists.Members.{filter_mem, mem_append, mem_filter, mem_left, mem_map, mem_right, once_filter, once_map}
use Rattle.obd_base.proofs.lists.Parts.{once_append}
use Rattle.page_surface.specs.Drawing.{exit, is_at}
use Rattle.page_surface.specs.Polygon.{IsPolygon, Pairs, Polygon, sides}
use Rattle.curve_paths.specs.Curves.{IsCurve, curve_entry, curve_points, exit_at, previous}
use Rattle.handle_slide.specs.Slide.{inside_ends, is_inside, new_place, new_side_points, side_after}
use Rattle.curve_paths.proofs.Circle.{chord_of, map_twice}
use Rattle.curve_paths.proofs.CurvePassings.{passing, passing_entry, passing_exit, passings}
use Rattle.arc_basis.proofs.OneItem.{index_of}
use Rattle.curve_paths.proofs.Passings.{Passing}
use Rattle.curve_paths.proofs.CurvePoints.{Made, at_itself, at_parts, entering, exit_same, following, following-less, following-previous, leaving, made, previous-following, previous-less}
use Rattle.curve_paths.proofs.Members.{from_flat_map, mem_flat_map, mem_get_or, mem_to_map}

-- a test that passes at a member, and one that fails at all
pub any_true : {X : Type 0} (q : X → Bool) (x : X) (xs : List X) → Mem x xs → q x ≡ true → list_any q xs ≡ true
any_true q x [] m h = absurd m
any_true q x (y ∷ xs) (inl e) h = ap (λ b. b || list_any q xs) (ap q (sym e) ∙ h)
any_true q x (y ∷ xs) (inr m) h = or_second (q y) _ (any_true q x xs m h)
  where
    or_second : (a b : Bool) → b ≡ true → (a || b) ≡ true
    or_second true b e = refl
    or_second false b e = e

pub from_any : {X : Type 0} (q : X → Bool) (xs : List X) → list_any q xs ≡ true → (x : X) × Mem x xs × (q x ≡ true)
from_any q [] h = absurd (false≢true h)
from_any q (x ∷ xs) h = elim (or_cases (q x) (list_any q xs) h) [
  | inl t ↦ (x, inl refl, t)
  | inr k ↦ (let (y, m, t) = from_any q xs k in (y, inr m, t))
]

-- images of those that pass
filter_image : {X Y : Type 0} (f : X → Y) (t : X → Bool) (u : Y → Bool) (xs : List X) → ((x : X) → Mem x xs → t x ≡ u (f x)) → map f (filter t xs) ≡ filter u (map f xs)
filter_image f t u [] h = refl
filter_image f t u (x ∷ xs) h = go (u (f x)) (h x (inl refl)) refl (filter_image f t u xs (λ y m. h y (inr m)))
  where
    go : (b : Bool) → t x ≡ u (f x) → u (f x) ≡ b → map f (filter t xs) ≡ filter u (map f xs) → map f (filter t (x ∷ xs)) ≡ filter u (f x ∷ map f xs)
    go true e g ih = ap (λ b. map f (cond b (x ∷ filter t xs) (filter t xs))) (e ∙ g) ∙ (ap (λ z. f x ∷ z) ih ∙ sym (ap (λ b. cond b (f x ∷ filter u (map f xs)) (filter u (map f xs))) g))
    go false e g ih = ap (λ b. map f (cond b (x ∷ filter t xs) (filter t xs))) (e ∙ g) ∙ (ih ∙ sym (ap (λ b. cond b (f x ∷ filter u (map f xs)) (filter u (map f xs))) g))

-- items of a list without repeats are different
once_at : {X : Type 0} (xs : List X) (d : X) (i j : ℕ) → Once xs → i < j → j < length xs → get_or xs i d ≢ get_or xs j d
once_at [] d i j o l h e = omega arith
once_at (x ∷ xs) d i zero o l h e = omega arith
once_at (x ∷ xs) d zero (suc j) o l h e = o.0 (subst (λ y. Mem y xs) (sym e) (mem_get_or xs j d (omega arith)))
once_at (x ∷ xs) d (suc i) (suc j) o l h e = once_at xs d i j o.1 (omega arith) (omega arith) e

module _ (p : Polygon) (is : IsPolygon p) (k : ℕ) (moves : side_after p k ≢ k) (lk : k < sides p) (l1 : side_after p k < sides p) (c : List Exit) (curve : IsCurve p c) where
  abbrev ok : Pairs p
  ok = is.pairs

  abbrev n : ℕ
  n = length c

  abbrev pub IsPoint : Exit → Type 0
  IsPoint q = (q.side < sides p) × (q.place < curve_points p c q.side)

  -- what stands at a point
  abbrev pub here : Exit → Passing
  here q = passing p is.pairs c curve q

  abbrev pub rows : ℕ → List Passing
  rows s = passings p is.pairs c curve s

  -- the chord at a passing isn't inside
  abbrev pub keeps : Passing → Bool
  keeps a = not (is_inside p k c (chord_of (length c) a))

  abbrev points : ℕ → List Exit
  points s = map (exit s) (below (curve_points p c s))

  pub two_rows : map here (points k ++ points (side_after p k)) ≡ rows k ++ rows (side_after p k)
  two_rows = map-append here (points k) (points (side_after p k)) ∙ ap₂ (λ x y. x ++ y) (map_twice here (exit k) (below (curve_points p c k))) (map_twice here (exit (side_after p k)) (below (curve_points p c (side_after p k))))

  point_of : (s : ℕ) → s < sides p → (q : Exit) → Mem q (points s) → IsPoint q × (q.side ≡ s)
  point_of s l q m =
      let (j, mj, e) = mem_map (exit s) q (below (curve_points p c s)) m in
      (subst (λ x. IsPoint x) (sym e) (l, mem_below _ j mj), ap (λ (x : Exit). x.side) e)

  of_point : (q : Exit) → IsPoint q → Mem q (points q.side)
  of_point q h = mem_to_map (exit q.side) q.place (below (curve_points p c q.side)) (below_mem _ q.place h.1)

  abbrev ends_at : ℕ → List Exit
  ends_at i = cond (is_inside p k c i) (curve_entry p c (exit_at c (previous (length c) i)) ∷ exit_at c i ∷ []) []

  -- a point is left out where the chord at it is inside
  left_out : (q : Exit) → IsPoint q → list_any (λ e. is_at e q.side q.place) (inside_ends p k c) ≡ is_inside p k c (chord_of (length c) (here q))
  left_out q h = both (list_any (λ e. is_at e q.side q.place) (inside_ends p k c)) (is_inside p k c (chord_of n (here q))) refl refl
    where
      itself' : is_at q q.side q.place ≡ true
      itself' = at_itself q

      -- an end of an inside chord has that chord
      chord_here : (i : ℕ) → i < n → (q ≡ curve_entry p c (exit_at c (previous n i))) ⊎ (q ≡ exit_at c i) → chord_of n (here q) ≡ i
      chord_here i l (inl e) = ap (λ x. chord_of n (here x)) e ∙ (ap (chord_of n) (passing_entry p ok c curve (previous n i) (previous-less n i l)) ∙ following-previous n i l)
      chord_here i l (inr e) = ap (λ x. chord_of n (here x)) e ∙ ap (chord_of n) (passing_exit p ok c curve i l)

      ends : (i : ℕ) (b : Bool) (e : Exit) → is_inside p k c i ≡ b → Mem e (ends_at i) → (b ≡ true) × ((e ≡ curve_entry p c (exit_at c (previous n i))) ⊎ (e ≡ exit_at c i))
      ends i true e t m = elim (subst (λ b. Mem e (cond b (curve_entry p c (exit_at c (previous n i)) ∷ exit_at c i ∷ []) [])) t m) [
        | inl q ↦ (refl, inl q)
        | inr u ↦ elim u [ inl q ↦ (refl, inr q) | inr v ↦ absurd v ]
      ]
      ends i false e t m = absurd (subst (λ b. Mem e (cond b (curve_entry p c (exit_at c (previous n i)) ∷ exit_at c i ∷ []) [])) t m)

      forward : list_any (λ e. is_at e q.side q.place) (inside_ends p k c) ≡ true → is_inside p k c (chord_of n (here q)) ≡ true
      forward t =
          let (e, m, at) = from_any (λ e. is_at e q.side q.place) (inside_ends p k c) t in
          let (i, mi, k') = from_flat_map ends_at e (below n) m in
          let same : q ≡ e = exit_same q q.side q.place refl refl ∙ sym (at_parts e q.side q.place at) in
          let (inner, which) = ends i (is_inside p k c i) e refl k' in
          let l = mem_below n i mi in
          ap (is_inside p k c) (chord_here i l (elim which [ inl u ↦ inl (same ∙ u) | inr u ↦ inr (same ∙ u) ])) ∙ inner

      backward : is_inside p k c (chord_of n (here q)) ≡ true → list_any (λ e. is_at e q.side q.place) (inside_ends p k c) ≡ true
      backward t = go (made p ok c curve q h)
        where
          there : (i : ℕ) (e : Exit) → i < n → is_inside p k c i ≡ true → (e ≡ curve_entry p c (exit_at c (previous n i))) ⊎ (e ≡ exit_at c i) → q ≡ e → list_any (λ e. is_at e q.side q.place) (inside_ends p k c) ≡ true
          there i e l inner which same =
              any_true (λ e. is_at e q.side q.place) e (inside_ends p k c)
              (mem_flat_map ends_at e i (below n) (below_mem n i l)
              (subst (λ b. Mem e (cond b (curve_entry p c (exit_at c (previous n i)) ∷ exit_at c i ∷ []) [])) (sym inner) (elim which [ inl u ↦ inl u | inr u ↦ inr (inl u) ])))
              (ap (λ (x : Exit). is_at x q.side q.place) (sym same) ∙ itself')

          go : Made p ok c curve q → list_any (λ e. is_at e q.side q.place) (inside_ends p k c) ≡ true
          go (leaving i l e) =
              let chord : chord_of n (here q) ≡ i = ap (λ x. chord_of n (here x)) e ∙ ap (chord_of n) (passing_exit p ok c curve i l) in
              there i (exit_at c i) l (sym (ap (is_inside p k c) chord) ∙ t) (inr refl) e
          go (entering i l e) =
              let chord : chord_of n (here q) ≡ following n i = ap (λ x. chord_of n (here x)) e ∙ ap (chord_of n) (passing_entry p ok c curve i l) in
              there (following n i) (curve_entry p c (exit_at c i)) (following-less n i l) (sym (ap (is_inside p k c) chord) ∙ t)
              (inl (ap (λ x. curve_entry p c (exit_at c x)) (sym (previous-following n i l)))) e

      both : (a b : Bool) → list_any (λ e. is_at e q.side q.place) (inside_ends p k c) ≡ a → is_inside p k c (chord_of n (here q)) ≡ b
          → list_any (λ e. is_at e q.side q.place) (inside_ends p k c) ≡ is_inside p k c (chord_of n (here q))
      both true b s t = s ∙ sym (forward s)
      both false false s t = s ∙ sym t
      both false true s t = absurd (false≢true (sym s ∙ backward t))

  abbrev new_points : List Exit
  new_points = new_side_points p k c

  on_two : (q : Exit) → Mem q (points k ++ points (side_after p k)) → IsPoint q × ((q.side ≡ k) ⊎ (q.side ≡ side_after p k))
  on_two q m = elim (mem_append q (points k) (points (side_after p k)) m) [
    | inl u ↦ (let r = point_of k lk q u in (r.0, inl r.1))
    | inr u ↦ (let r = point_of (side_after p k) l1 q u in (r.0, inr r.1))
  ]

  -- the passings of the new side
  pub new_row : map here (new_side_points p k c) ≡ filter keeps (rows k ++ rows (side_after p k))
  new_row =
      filter_image here _ keeps (points k ++ points (side_after p k)) (λ q m. ap not (left_out q (on_two q m).0)) ∙ ap (filter keeps) two_rows

  -- its points are the points of the two sides at which the chord isn't inside
  pub new_point : (q : Exit) → Mem q (new_side_points p k c) → IsPoint q × ((q.side ≡ k) ⊎ (q.side ≡ side_after p k)) × (keeps (here q) ≡ true)
  new_point q m =
      let (a, t) = mem_filter _ q (points k ++ points (side_after p k)) m in
      let r = on_two q a in
      (r.0, r.1, sym (ap not (left_out q r.0)) ∙ t)

  pub point_new : (q : Exit) → IsPoint q → (q.side ≡ k) ⊎ (q.side ≡ side_after p k) → keeps (here q) ≡ true → Mem q (new_side_points p k c)
  point_new q h s t =
      let there : Mem q (points k ++ points (side_after p k)) = elim s [
        | inl e ↦ mem_left q (points k) (points (side_after p k)) (subst (λ x. Mem q (points x)) e (of_point q h))
        | inr e ↦ mem_right q (points k) (points (side_after p k)) (subst (λ x. Mem q (points x)) e (of_point q h))
      ] in
      filter_mem _ q (points k ++ points (side_after p k)) there (ap not (left_out q h) ∙ t)

  once_new : Once (new_side_points p k c)
  once_new =
      once_filter _ (points k ++ points (side_after p k)) (once_append (points k) (points (side_after p k))
      (once_map (exit k) (λ x y e. ap (λ (z : Exit). z.place) e) (below (curve_points p c k)) (once_range 0 _))
      (once_map (exit (side_after p k)) (λ x y e. ap (λ (z : Exit). z.place) e) (below (curve_points p c (side_after p k))) (once_range 0 _))
      (λ z m u. let a = (point_of k lk z m).1 in let b = (point_of (side_after p k) l1 z u).1 in moves (sym b ∙ a)))

  -- the place of a point, and the point at a place
  pub new_of : (j : ℕ) → j < length (new_side_points p k c) → new_place p k c (get_or (new_side_points p k c) j (exit 0 0)) ≡ j
  new_of j l =
      let q = get_or new_points j (exit 0 0) in
      position_or_len_is (λ e. is_at e q.side q.place) new_points j (exit 0 0) (omega (arith, l))
      (λ i h. not_so (is_at (get_or new_points i (exit 0 0)) q.side q.place) (λ t.
      once_at new_points (exit 0 0) i j once_new h l (at_parts (get_or new_points i (exit 0 0)) q.side q.place t ∙ sym (exit_same q q.side q.place refl refl))))
      (λ h. at_itself q)
    where
      not_so : (b : Bool) → (b ≡ true → ⊥) → b ≡ false
      not_so true h = absurd (h refl)
      not_so false h = refl

  pub new_at : (q : Exit) → Mem q (new_side_points p k c) → (new_place p k c q < length (new_side_points p k c)) × (get_or (new_side_points p k c) (new_place p k c q) (exit 0 0) ≡ q)
  new_at q m =
      let (j, l, e) = index_of q new_points (exit 0 0) m in
      let here' : new_place p k c q ≡ j = ap (new_place p k c) (sym e) ∙ new_of j l in
      (omega (arith, here', l), ap (λ x. get_or new_points x (exit 0 0)) here' ∙ e)
