-- The words read from the points of a curve: the two ends of a chord, the two names of a point, and once round.
use Rattle.std.proofs.Common.{add-one, ◌≡◌, ℕ, zero, suc, ◌+◌, ◌-◌, ◌<◌, ◌≤◌, Bool, false, List, [], ◌∷◌, ◌++◌, map, length, get_or, take, drop, refl, sym, ◌∙◌, ap, subst, arith, append_assoc, inl, inr}
use Rattle.std.specs.List.{flat_map, filter, range_with_len}
use Rattle.std.proofs.lemmas.Bool.{lt-ltb, le-ltb, cases_eq, eq-eqb, ne_eqb, false≢true}
use Rattle.std.proofs.lemmas.List.{append-nil, take_more, drop_more, drop_all, take_all, get_or-map, length-map}
use Rattle.std.proofs.lemmas.List.Concat.{flat_map-append}
use Rattle.std.proofs.lemmas.List.Folds.{flat_map-map}
use Rattle.curve_paths.specs.Curves.{curve_points, curve_entry, turned, rho, signed, push_at, curve_spot, exit_at, previous, IsCurve}
use Rattle.obd_base.specs.Lists.{below}
use Rattle.obd_base.specs.declared.points.Exit.{Exit}
use Rattle.obd_base.specs.declared.points.Sign.{Sign}
use Rattle.obd_base.specs.declared.points.Sign.TheVariants.{Plus, Minus}
use Rattle.page_surface.specs.Drawing.{exit}
use Rattle.page_surface.specs.Polygon.{Polygon, sides, partner, Pairs}
use Rattle.curve_paths.specs.Alphabet.{Alphabet, cancelled, back, Alike, Null}
use Rattle.curve_paths.proofs.Reduction.{back-back, back-cons, back-append, alike_after, alike_back, alike_join, pair_out}
use Rattle.path_words.proofs.SideLetters.{side_letters}
use Rattle.obd_base.proofs.lists.Below.{range_push}
use Rattle.curve_paths.proofs.PointPlaces.{points_from, points_of, mem_points}
use Rattle.curve_paths.proofs.Planar.{Interval, Tells, interval_once}
use Rattle.curve_paths.proofs.CurvePoints.{In, Made, leaving, entering, made, mate, mate_exit, mate_entry, following, exit_in, entry-entry, following-less, previous-less, leaves_exit, leaves_entry, enters_entry, points_partner}
use Rattle.curve_paths.proofs.CurvePlanar.{curve_planar, all_points}

-- a product of products
pub flat_map-flat_map : {A B C : Type 0} (f : B → List C) (g : A → List B) (xs : List A) → flat_map f (flat_map g xs) ≡ flat_map (λ x. flat_map f (g x)) xs
flat_map-flat_map f g [] = refl
flat_map-flat_map f g (x ∷ xs) = flat_map-append f (g x) (flat_map g xs) ∙ ap (λ z. flat_map f (g x) ++ z) (flat_map-flat_map f g xs)

-- products of words that agree
pub flat_map_same : {A B : Type 0} (f g : A → List B) (xs : List A) → ((x : A) → f x ≡ g x) → flat_map f xs ≡ flat_map g xs
flat_map_same f g [] h = refl
flat_map_same f g (x ∷ xs) h = rw (h x) (ap (λ z. g x ++ z) (flat_map_same f g xs h))

-- a rotation without its first letter
abbrev rest_at : ℕ → List ℕ → List ℕ
rest_at i w = drop (i + 1) w ++ take i w

turned_here : (i : ℕ) (w : List ℕ) → i < length w → turned i w ≡ get_or w i 0 ∷ rest_at i w
turned_here i w l = ap (λ z. z ++ take i w) (drop_more w i 0 l)

turned_next : (i : ℕ) (w : List ℕ) → i < length w → turned (i + 1) w ≡ rest_at i w ++ (get_or w i 0 ∷ [])
turned_next i w l = ap (λ z. drop (i + 1) w ++ z) (take_more w i 0 l) ∙ sym (append_assoc (drop (i + 1) w) (take i w) (get_or w i 0 ∷ []))

turned_round : (w : List ℕ) → turned (length w) w ≡ turned 0 w
turned_round w =
    let l : length w ≤ length w = omega arith in
    ap (λ z. z ++ take (length w) w) (drop_all (length w) w l) ∙ (take_all (length w) w l ∙ sym (append-nil w))

module _ (p : Polygon) (ok : Pairs p) (c : List Exit) (curve : IsCurve p c) where
  abbrev L : Alphabet ℕ
  L = side_letters p ok

  abbrev w : List ℕ
  w = map (λ e. e.side) c

  abbrev R : ℕ
  R = length c

  abbrev In' : Exit → Type 0
  In' = In p ok c curve

  -- the cyclic word read from a point
  abbrev pub read_at : Exit → List ℕ
  read_at e = rho p c e.side e.place

  -- the word read from an exit
  pub read_exit : (i : ℕ) → i < R → read_at (exit_at c i) ≡ turned i w
  read_exit i l = rw (leaves_exit p ok c curve i l, lt-ltb i R l) refl

  -- and from an entry
  pub read_entry : (i : ℕ) → i < R → read_at (curve_entry p c (exit_at c i)) ≡ back L (turned (i + 1) w)
  read_entry i l = let h : R ≤ R = omega arith in rw (leaves_entry p ok c curve i l, le-ltb R R h, enters_entry p ok c curve i l) (ap (λ z. back L (turned z w)) (sym (add-one i)))

  turned_previous : (i : ℕ) → i < R → turned (previous R i + 1) w ≡ turned i w
  turned_previous i l = elim (cases_eq i 0) [
    | inl e ↦ (let q : (R - 1) + 1 ≡ length w = omega (arith, length-map c (λ e. e.side), l) in
        rw (eq-eqb i 0 e) (ap (λ z. turned z w) q ∙ (turned_round w ∙ ap (λ z. turned z w) (sym e))))
    | inr h ↦ (let q : (i - 1) + 1 ≡ i = omega arith in rw (ne_eqb i 0 h) (ap (λ z. turned z w) q))
  ]

  -- turned to the next exit
  pub turned_following : (i : ℕ) → i < R → turned (following R i) w ≡ turned (i + 1) w
  turned_following i l = elim (cases_eq (suc i) R) [
    | inl e ↦ (let q : length w ≡ i + 1 = omega (arith, length-map c (λ e. e.side), e) in
        rw (eq-eqb (suc i) R e) (sym (turned_round w) ∙ ap (λ z. turned z w) q))
    | inr h ↦ (let q : suc i ≡ i + 1 = omega arith in rw (ne_eqb (suc i) R h) (ap (λ z. turned z w) q))
  ]

  -- the two ends of a chord read inverse words
  pub read_mate : (e : Exit) → In p ok c curve e → read_at (mate p ok c curve e) ≡ back L (read_at e)
  read_mate e h = go (made p ok c curve e h)
    where
      go : Made p ok c curve e → read_at (mate p ok c curve e) ≡ back L (read_at e)
      go (leaving i l q) =
          ap read_at (ap (mate p ok c curve) q ∙ mate_exit p ok c curve i l)
          ∙ (read_entry (previous R i) (previous-less R i l) ∙ (ap (back L) (turned_previous i l) ∙ ap (back L) (sym (ap read_at q ∙ read_exit i l))))
      go (entering i l q) =
          ap read_at (ap (mate p ok c curve) q ∙ mate_entry p ok c curve i l)
          ∙ (read_exit (following R i) (following-less R i l) ∙ (turned_following i l
          ∙ (sym (back-back L (turned (i + 1) w)) ∙ ap (back L) (sym (ap read_at q ∙ read_entry i l)))))

  get_side : (i : ℕ) → i < R → get_or w i 0 ≡ (exit_at c i).side
  get_side i l = get_or-map (λ e. e.side) c i (exit 0 0) 0 l

  -- k, the word of the point's other name, and p(k) together are the inverse word
  pub read_across : (e : Exit) → In p ok c curve e
      → Alike L (e.side ∷ (read_at (curve_entry p c e) ++ (partner p e.side ∷ []))) (back L (read_at e))
  read_across e h = go (made p ok c curve e h)
    where
      shape : (s s' : ℕ) (x x' y y' : List ℕ) → s ≡ s' → x ≡ x' → y ≡ y' → Alike L (s' ∷ (x' ++ (partner p s' ∷ []))) (back L y') → Alike L (s ∷ (x ++ (partner p s ∷ []))) (back L y)
      shape s s' x x' y y' a b d h = rw (a, b, d) h

      -- a rotation k v, seen from both sides of its first letter
      out : (k : ℕ) (v : List ℕ) → Alike L (k ∷ (back L (v ++ (k ∷ [])) ++ (partner p k ∷ []))) (back L (k ∷ v))
      out k v =
          ap (λ z. cancelled L (k ∷ (z ++ (partner p k ∷ [])))) (back-append L v (k ∷ []))
          ∙ (pair_out L [] k (back L v ++ (partner p k ∷ [])) ∙ ap (cancelled L) (sym (back-cons L k v)))

      into : (k : ℕ) (v : List ℕ) → Alike L (partner p k ∷ ((k ∷ v) ++ (partner p (partner p k) ∷ []))) (back L (back L (v ++ (k ∷ []))))
      into k v =
          ap (λ z. cancelled L (partner p k ∷ k ∷ (v ++ (z ∷ [])))) (ok.twice k)
          ∙ (subst (λ z. Alike L (partner p k ∷ z ∷ (v ++ (z ∷ []))) (v ++ (z ∷ []))) (ok.twice k) (pair_out L [] (partner p k) (v ++ (partner p (partner p k) ∷ [])))
          ∙ ap (cancelled L) (sym (back-back L (v ++ (k ∷ [])))))

      fits : (i : ℕ) → i < R → i < length w
      fits i l = omega (arith, length-map c (λ e. e.side), l)

      go : Made p ok c curve e → Alike L (e.side ∷ (read_at (curve_entry p c e) ++ (partner p e.side ∷ []))) (back L (read_at e))
      go (leaving i l q) =
          shape e.side (get_or w i 0) (read_at (curve_entry p c e)) (back L (rest_at i w ++ (get_or w i 0 ∷ []))) (read_at e) (get_or w i 0 ∷ rest_at i w)
          (ap (λ z. z.side) q ∙ sym (get_side i l))
          (ap (λ z. read_at (curve_entry p c z)) q ∙ (read_entry i l ∙ ap (back L) (turned_next i w (fits i l))))
          (ap read_at q ∙ (read_exit i l ∙ turned_here i w (fits i l)))
          (out (get_or w i 0) (rest_at i w))
      go (entering i l q) =
          shape e.side (partner p (get_or w i 0)) (read_at (curve_entry p c e)) (get_or w i 0 ∷ rest_at i w) (read_at e) (back L (rest_at i w ++ (get_or w i 0 ∷ [])))
          (ap (λ z. z.side) q ∙ ap (partner p) (sym (get_side i l)))
          (ap read_at (ap (curve_entry p c) q ∙ entry-entry p ok c curve (exit_at c i) (exit_in p ok c curve i l)) ∙ (read_exit i l ∙ turned_here i w (fits i l)))
          (ap read_at q ∙ (read_entry i l ∙ ap (back L) (turned_next i w (fits i l))))
          (into (get_or w i 0) (rest_at i w))

  -- what the twist sets at a point
  abbrev pub point_word : Sign → Exit → List ℕ
  point_word g e = signed p g (rho p c e.side e.place)

  -- so what the twist sets at the two ends of a chord is inverse
  pub point_mate : (g : Sign) (e : Exit) → In p ok c curve e → point_word g (mate p ok c curve e) ≡ back L (point_word g e)
  point_mate Plus e h = read_mate e h
  point_mate Minus e h = ap (back L) (read_mate e h)

  -- and so is what it sets at the two names of a point
  pub point_across : (g : Sign) (e : Exit) → In p ok c curve e
      → Alike L (e.side ∷ (point_word g (curve_entry p c e) ++ (partner p e.side ∷ []))) (back L (point_word g e))
  point_across Plus e h = read_across e h
  point_across Minus e h = turn e.side (read_at (curve_entry p c e)) (read_at e) (read_across e h)
    where
      turn : (k : ℕ) (x y : List ℕ) → Alike L (k ∷ (x ++ (partner p k ∷ []))) (back L y) → Alike L (k ∷ (back L x ++ (partner p k ∷ []))) (back L (back L y))
      turn k x y a =
          let e : back L (k ∷ (x ++ (partner p k ∷ []))) ≡ k ∷ (back L x ++ (partner p k ∷ [])) =
          back-cons L k (x ++ (partner p k ∷ [])) ∙ (ap (λ z. z ++ (partner p k ∷ [])) (back-append L x (partner p k ∷ []))
          ∙ ap (λ z. z ∷ (back L x ++ (partner p k ∷ []))) (ok.twice k)) in
          ap (cancelled L) (sym e) ∙ alike_back L (k ∷ (x ++ (partner p k ∷ []))) (back L y) a

  -- the product over an interval of points is the product over those whose chords end outside it
  pub product_once : (g : Sign) (away : Exit → Bool) (xs : List Exit) → Interval (In p ok c curve) (curve_spot p c) (mate p ok c curve) (curve_planar p ok c curve) xs
      → Tells (In p ok c curve) (curve_spot p c) (mate p ok c curve) (curve_planar p ok c curve) away xs
      → Alike L (flat_map (point_word g) xs) (flat_map (point_word g) (filter away xs))
  product_once g away xs h t = interval_once In' (curve_spot p c) (mate p ok c curve) (curve_planar p ok c curve) L (point_word g)
      (length xs) away xs (omega arith) h t (λ x m k. ap (cancelled L) (point_mate g x (h.inside x m)))

  -- the product over successive points of a side
  abbrev pub product_from : Sign → ℕ → ℕ → ℕ → List ℕ
  product_from g k j n = flat_map (λ i. signed p g (rho p c k i)) (range_with_len j n)

  -- the points of a side give the product along it
  pub product_points : (g : Sign) (k j n : ℕ) → flat_map (point_word g) (points_from (curve_points p c) k j n) ≡ product_from g k j n
  product_points g k j n = flat_map-map (point_word g) (exit k) (range_with_len j n)

  -- and those of successive sides the product of their pushes
  pub product_sides : (g : Sign) (a n : ℕ) → flat_map (point_word g) (points_of (curve_points p c) a n) ≡ flat_map (push_at p c g) (range_with_len a n)
  product_sides g a n = flat_map-flat_map (point_word g) (λ k. points_from (curve_points p c) k 0 (curve_points p c k)) (range_with_len a n)
      ∙ flat_map_same (λ k. flat_map (point_word g) (points_from (curve_points p c) k 0 (curve_points p c k))) (push_at p c g) (range_with_len a n)
      (λ k. product_points g k 0 (curve_points p c k))

  -- none passes a test that always fails
  pub none_away : (xs : List Exit) → filter (λ e. false) xs ≡ []
  none_away [] = refl
  none_away (x ∷ xs) = none_away xs

  -- the product over all sides once round reduces to nothing
  pub once_round : (g : Sign) → Null L (flat_map (push_at p c g) (below (sides p)))
  once_round g =
      let all = all_points p ok c curve in
      let xs : List Exit = points_of (curve_points p c) 0 (sides p) in
      ap (cancelled L) (sym (product_sides g 0 (sides p)))
      ∙ (product_once g (λ e. false) xs all (record {
        far = λ x m q k. absurd (false≢true q);
        near = λ x m q. let i = all.inside x m in let s = (curve_planar p ok c curve).stays x i in
            mem_points (curve_points p c) 0 (sides p) (mate p ok c curve x) (omega arith) (omega (arith, s.0)) s.1;
      })
      ∙ ap (λ z. cancelled L (flat_map (point_word g) z)) (none_away xs))

  -- for a part of a side: the points of k before a place, and the points of p(k) after the same place
  pub part_across : (g : Sign) (k : ℕ) → k < sides p → (i r : ℕ) → i + r ≡ curve_points p c k
      → Alike L (k ∷ (product_from g (partner p k) r i ++ (partner p k ∷ []))) (back L (product_from g k 0 i))
  part_across g k lk zero r e = pair_out L [] k []
  part_across g k lk (suc i) r e =
      let ih = part_across g k lk i (r + 1) (omega (arith, e)) in
      let q : Exit = exit k i in
      let inq : In p ok c curve q = (lk, omega (arith, e)) in
      let one = point_across g q inq in
      let place : curve_points p c k - 1 - i ≡ r = omega (arith, e) in
      let one' : Alike L (k ∷ (signed p g (rho p c (partner p k) r) ++ (partner p k ∷ []))) (back L (signed p g (rho p c k i))) =
      subst (λ z. Alike L (k ∷ (signed p g (rho p c (partner p k) z) ++ (partner p k ∷ []))) (back L (signed p g (rho p c k i)))) place one in
      join k (signed p g (rho p c (partner p k) r)) (product_from g (partner p k) (r + 1) i) (signed p g (rho p c k i)) (product_from g k 0 i) one' ih
      ∙ ap (λ z. cancelled L (back L z)) (sym (last k i))
    where
      join : (k : ℕ) (x xs y ys : List ℕ) → Alike L (k ∷ (x ++ (partner p k ∷ []))) (back L y) → Alike L (k ∷ (xs ++ (partner p k ∷ []))) (back L ys)
          → Alike L (k ∷ ((x ++ xs) ++ (partner p k ∷ []))) (back L (ys ++ y))
      join k x xs y ys a b =
          let pair : Alike L (partner p k ∷ k ∷ (xs ++ (partner p k ∷ []))) (xs ++ (partner p k ∷ [])) =
          subst (λ z. Alike L (partner p k ∷ z ∷ (xs ++ (partner p k ∷ []))) (xs ++ (partner p k ∷ []))) (ok.twice k) (pair_out L [] (partner p k) (xs ++ (partner p k ∷ []))) in
          ap (λ z. cancelled L (k ∷ z)) (append_assoc x xs (partner p k ∷ []))
          ∙ (sym (alike_after L (k ∷ x) (partner p k ∷ k ∷ (xs ++ (partner p k ∷ []))) (xs ++ (partner p k ∷ [])) pair)
          ∙ (ap (λ z. cancelled L (k ∷ z)) (sym (append_assoc x (partner p k ∷ []) (k ∷ (xs ++ (partner p k ∷ [])))))
          ∙ (alike_join L (k ∷ (x ++ (partner p k ∷ []))) (back L y) (k ∷ (xs ++ (partner p k ∷ []))) (back L ys) a b
          ∙ ap (cancelled L) (sym (back-append L ys y)))))

      last : (k i : ℕ) → product_from g k 0 (suc i) ≡ product_from g k 0 i ++ signed p g (rho p c k i)
      last k i =
          let f = λ (j : ℕ). signed p g (rho p c k j) in
          let z : 0 + i ≡ i = omega arith in
          ap (flat_map f) (range_push 0 i) ∙ (flat_map-append f (range_with_len 0 i) ((0 + i) ∷ [])
          ∙ ap (λ t. flat_map f (range_with_len 0 i) ++ t) (append-nil (f (0 + i)) ∙ ap f z))

  -- for a whole side: s, the product at p(s), and p(s) together are the inverse of the product at s
  pub push_across : (g : Sign) (k : ℕ) → k < sides p → Alike L (k ∷ (push_at p c g (partner p k) ++ (partner p k ∷ []))) (back L (push_at p c g k))
  push_across g k lk =
      let e : curve_points p c k + 0 ≡ curve_points p c k = omega arith in
      let h = part_across g k lk (curve_points p c k) 0 e in
      ap (λ z. cancelled L (k ∷ (product_from g (partner p k) 0 z ++ (partner p k ∷ [])))) (points_partner p ok c curve k) ∙ h
