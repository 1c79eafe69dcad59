-- How a curve is read from one of its points.
use Rattle.std.proofs.Common.{◌≡◌, ℕ, ◌+◌, ◌-◌, ◌<◌, ◌≤◌, Bool, true, false, cond, eqb, ◌&&◌, not, List, [], ◌∷◌, ◌++◌, map, reverse, length, take, drop, get_or, refl, sym, ◌∙◌, ap, ap₂, arith, inl, inr, add-one, append_assoc}
use Rattle.std.specs.List.{All, position_or_len}
use Rattle.std.proofs.lemmas.List.{reverse-append, take-map, drop-map, get_or_read, map-append, take_rest}
use Rattle.std.proofs.lemmas.Bool.{cases_Bool, cases_eq, eq-eqb, eqb-true, le-ltb, ne_eqb}
use Rattle.std.proofs.lemmas.List.Sums.{position_or_len_is}
use Rattle.obd_base.specs.Lists.{Mem}
use Rattle.obd_base.specs.declared.points.Exit.{Exit}
use Rattle.page_surface.specs.Drawing.{exit, is_at}
use Rattle.page_surface.specs.Polygon.{Pairs, Polygon, partner, sides}
use Rattle.page_surface.specs.Words.{inverse}
use Rattle.curve_paths.specs.Curves.{IsCurve, curve_entry, curve_points, rho, turned}
use Rattle.curve_paths.proofs.Members.{mem_get_or}
use Rattle.curve_paths.proofs.CurvePoints.{Made, enters_entry, entering, leaves_exit, leaving, made, points_partner}
use Rattle.curve_paths.proofs.Reduction.{back-back}
use Rattle.path_words.proofs.SideLetters.{side_letters}

-- the exits of a curve leave through sides
pub exits_on_sides : (p : Polygon) (c : List Exit) → IsCurve p c → All (λ e. e.side < sides p) c
exits_on_sides p c curve k d l = (curve.in_range (get_or c k d) (mem_get_or c k d l)).0

-- the way back along two words
pub inverse-append : (p : Polygon) (u v : List ℕ) → inverse p (u ++ v) ≡ inverse p v ++ inverse p u
inverse-append p u v = ap reverse (map-append (partner p) u v) ∙ reverse-append (map (partner p) u) (map (partner p) v)

module _ (c : List Exit) (start : ℕ) where
  -- the sides of the exits
  abbrev letters : List Exit → List ℕ
  letters es = map (λ e. e.side) es

  -- the sides from an exit on, and then those before it
  pub round : (old first second : List ℕ) → first ≡ old ++ letters (take (length c - start) (drop start c)) → second ≡ first ++ letters (take start c)
      → second ≡ old ++ turned start (letters c)
  round old first second a b =
      b ∙ (ap (λ x. x ++ letters (take start c)) (a ∙ ap (λ x. old ++ letters x) (take_rest c start))
      ∙ (append_assoc old (letters (drop start c)) (letters (take start c))
      ∙ ap (λ x. old ++ x) (ap₂ (λ x y. x ++ y) (sym (drop-map (λ (e : Exit). e.side) start c)) (sym (take-map (λ (e : Exit). e.side) start c)))))

  -- and the way back
  pub round_back : (p : Polygon) (old first second : List ℕ) → first ≡ old ++ inverse p (letters (take start c)) → second ≡ first ++ inverse p (letters (take (length c - start) (drop start c)))
      → second ≡ old ++ inverse p (turned start (letters c))
  round_back p old first second a b =
      b ∙ (ap₂ (λ x y. x ++ inverse p (letters y)) a (take_rest c start)
      ∙ (append_assoc old (inverse p (letters (take start c))) (inverse p (letters (drop start c)))
      ∙ ap (λ x. old ++ x) (sym (inverse-append p (letters (drop start c)) (letters (take start c)))
      ∙ ap (inverse p) (ap₂ (λ x y. x ++ y) (sym (drop-map (λ (e : Exit). e.side) start c)) (sym (take-map (λ (e : Exit). e.side) start c))))))

-- of two tests, the second fails
pub not_both : (a b : Bool) → b ≡ false → (a && b) ≡ false
not_both true b h = h
not_both false b h = refl

module _ (test : Exit → Bool) (c : List Exit) where
  -- what is read of a test
  pub test_read : (i : ℕ) (e : Exit) (b : Bool) → i < length c → e ≡ get_or c i e → test e ≡ b → test (get_or c i (exit 0 0)) ≡ b
  test_read i e b l is t = ap test (sym (get_or_read c i e l is (exit 0 0))) ∙ t

  -- the first exit that passes
  pub first_at : (i : ℕ) (e : Exit) → i < length c → e ≡ get_or c i e → ((k : ℕ) → k < i → test (get_or c k (exit 0 0)) ≡ false) → test e ≡ true → i ≡ position_or_len test c
  first_at i e l is before t = sym (position_or_len_is test c i (exit 0 0) (omega arith) before (λ _. test_read i e true l is t))

  -- no exit passes
  pub first_none : (n : ℕ) → length c ≤ n → ((k : ℕ) → k < n → test (get_or c k (exit 0 0)) ≡ false) → length c ≡ position_or_len test c
  first_none n l before = sym (position_or_len_is test c (length c) (exit 0 0) (omega arith) (λ k h. before k (omega arith)) (λ h. absurd (omega arith)))

-- tests that agree on the members find the same first one
position_same : {A : Type 0} (p q : A → Bool) (xs : List A) → ((x : A) → Mem x xs → p x ≡ q x) → position_or_len p xs ≡ position_or_len q xs
position_same p q [] same = refl
position_same p q (x ∷ xs) same = ap₂ (λ b n. cond (not b) (1 + n) 0) (same x (inl refl)) (position_same p q xs (λ y m. same y (inr m)))

-- places that are each other's on a side and its partner
place_across : (m i j : ℕ) → i < m → j < m → eqb i (m - 1 - j) ≡ eqb (m - 1 - i) j
place_across m i j l h = elim (cases_eq i (m - 1 - j)) [
  | inl e ↦ eq-eqb i (m - 1 - j) e ∙ sym (eq-eqb (m - 1 - i) j (omega arith))
  | inr ne ↦ ne_eqb i (m - 1 - j) ne ∙ sym (ne_eqb (m - 1 - i) j (λ e. ne (omega arith)))
]

module _ (p : Polygon) (ok : Pairs p) (c : List Exit) (curve : IsCurve p c) (k j count : ℕ) (lk : k < sides p) (points : count ≡ curve_points p c k) (lj : j < count) where
  -- an exit whose entry is the point, as the code tests it
  abbrev enters_there : Exit → Bool
  enters_there e = eqb (partner p e.side) k && eqb e.place (count - 1 - j)

  tests_agree : (e : Exit) → Mem e c → enters_there e ≡ is_at (curve_entry p c e) k j
  tests_agree e m = elim (cases_Bool (eqb (partner p e.side) k)) [
    | inl t ↦
        let same : curve_points p c e.side ≡ count
        = sym (points_partner p ok c curve e.side) ∙ (ap (curve_points p c) (eqb-true (partner p e.side) k t) ∙ sym points) in
        rw (t, same) (place_across count e.place j (omega (arith, (curve.in_range e m).1)) lj)
    | inr t ↦ rw t refl
  ]

  -- so the exits are told apart by the test as by their entries
  enters_is : position_or_len enters_there c ≡ position_or_len (λ e. is_at (curve_entry p c e) k j) c
  enters_is = position_same enters_there (λ e. is_at (curve_entry p c e) k j) c tests_agree

  -- where no exit leaves at the point, one enters there
  enters_within : length c ≤ position_or_len (λ e. is_at e k j) c → position_or_len enters_there c < length c
  enters_within none = go (made p ok c curve (exit k j) (lk, omega (arith, points)))
    where
      go : Made p ok c curve (exit k j) → position_or_len enters_there c < length c
      go (leaving i l e) =
          let at : position_or_len (λ x. is_at x k j) c ≡ i = ap (λ (x : Exit). position_or_len (λ y. is_at y x.side x.place) c) e ∙ leaves_exit p ok c curve i l in
          absurd (omega arith)
      go (entering i l e) =
          let at : position_or_len (λ x. is_at (curve_entry p c x) k j) c ≡ i
          = ap (λ (x : Exit). position_or_len (λ y. is_at (curve_entry p c y) x.side x.place) c) e ∙ enters_entry p ok c curve i l in
          omega (arith, enters_is)

  -- so after it the curve is read on
  pub entering_end : (n i : ℕ) → n ≡ position_or_len (λ e. is_at e k j) c → length c ≤ n → i ≡ position_or_len enters_there c → i + 1 ≤ length c
  entering_end n i is l at = omega (arith, enters_within (omega arith))

  -- and from one where an exit enters
  pub rho_entering : (n i : ℕ) → n ≡ position_or_len (λ e. is_at e k j) c → length c ≤ n → i ≡ position_or_len enters_there c
      → rho p c k j ≡ inverse p (turned (i + 1) (map (λ e. e.side) c))
  rho_entering n i is l at = rw (← is, le-ltb n (length c) l, ← enters_is, ← at) (ap (λ z. inverse p (turned z (map (λ e. e.side) c))) (sym (add-one i)))

-- the way back along the way back
pub inverse-inverse : (p : Polygon) → Pairs p → (w : List ℕ) → inverse p (inverse p w) ≡ w
inverse-inverse p ok w = back-back (side_letters p ok) w
