-- The words of the pushes: how they are made, their letters, and how long they are.
use Rattle.std.proofs.Common.{◌≡◌, ℕ, suc, ◌+◌, ◌-◌, ◌*◌, ◌%◌, ◌<◌, ◌≤◌, List, [], ◌∷◌, ◌++◌, map, length, take, drop, get_or, refl, sym, ◌∙◌, ap, ap₂, subst, arith, inl, inr, append-nil, length-append, nat_eq, nat_lt}
use Rattle.std.specs.List.{All, flat_map, position_or_len}
use Rattle.std.proofs.lemmas.Bool.{cond_both}
use Rattle.std.proofs.lemmas.List.{length-map, length-reverse, take-append-drop}
use Rattle.std.proofs.lemmas.List.Concat.{flat_map-append}
use Rattle.std.proofs.lemmas.List.FromFn.{get_or-map-range_with_len, length-map-range_with_len, length-range_with_len, map-range_with_len_more}
use Rattle.std.proofs.lemmas.List.Sums.{count_by-le-length}
use Rattle.obd_base.specs.Lists.{Mem, below}
use Rattle.obd_base.specs.declared.points.Exit.{Exit}
use Rattle.obd_base.specs.declared.points.Sign.{Sign}
use Rattle.obd_base.specs.declared.points.Sign.TheVariants.{Plus, Minus}
use Rattle.obd_base.proofs.lists.Below.{below_push}
use Rattle.obd_base.proofs.lists.Members.{mem_append, mem_left, mem_map, mem_right}
use Rattle.page_surface.specs.Drawing.{is_at}
use Rattle.page_surface.specs.Polygon.{Pairs, Polygon, partner, sides}
use Rattle.page_surface.specs.Words.{inverse, push_letter, reduced}
use Rattle.page_surface.proofs.WordLaws.{Free-reduced, reduced_free}
use Rattle.curve_paths.specs.Curves.{IsCurve, curve_entry, curve_points, passed, push_at, rho, signed, turned}
use Rattle.path_words.specs.Pushes.{reduced_pushes}
use Rattle.curve_paths.proofs.Letters.{from_back, from_cancelled}
use Rattle.curve_paths.proofs.Members.{from_flat_map, mem_get_or}
use Rattle.path_words.proofs.SideLetters.{AreSides, reduced_is, side_letters}

-- a push with one point more
pub push_more : (p : Polygon) (c : List Exit) (sign : Sign) (k j : ℕ) (push new : List ℕ) → push ≡ flat_map (λ i. signed p sign (rho p c k i)) (below j)
    → new ≡ push ++ signed p sign (rho p c k j) → new ≡ flat_map (λ i. signed p sign (rho p c k i)) (below (j + 1))
push_more p c sign k j push new so_far made =
    let f : ℕ → List ℕ = λ i. signed p sign (rho p c k i) in
    let one : j + 1 ≡ suc j = omega arith in
    made
    ∙ (ap (λ x. x ++ f j) so_far
    ∙ sym (ap (λ n. flat_map f (below n)) one
    ∙ (ap (flat_map f) (below_push j) ∙ (flat_map-append f (below j) (j ∷ []) ∙ ap (λ x. flat_map f (below j) ++ x) (append-nil (f j))))))

-- the pushes along one side more
pub pushes_more : (f : ℕ → List ℕ) (k : ℕ) (pushes new : List (List ℕ)) (push : List ℕ) → pushes ≡ map f (below k) → push ≡ f k → new ≡ pushes ++ push ∷ []
    → new ≡ map f (below (k + 1))
pushes_more f k pushes new push so_far is made =
    made ∙ (ap₂ (λ xs x. xs ++ x ∷ []) so_far is ∙ sym (map-range_with_len_more f 0 k k (omega arith)))

-- words of which each is at most so long
pub length_product : (f : ℕ → List ℕ) (most : ℕ) (xs : List ℕ) → ((x : ℕ) → length (f x) ≤ most) → length (flat_map f xs) ≤ length xs * most
length_product f most [] h = omega arith
length_product f most (x ∷ xs) h = omega (arith, length-append (f x) (flat_map f xs), h x, length_product f most xs h)

-- a reduced form is no longer than the word
pub length-reduced : (p : Polygon) (w : List ℕ) → length (reduced p w) ≤ length w
length-reduced p [] = omega arith
length-reduced p (s ∷ w) = omega (arith, pushed (reduced p w), length-reduced p w)
  where
    pushed : (v : List ℕ) → length (push_letter p s v) ≤ suc (length v)
    pushed [] = omega arith
    pushed (t ∷ v) = cond_both (nat_eq (partner p s) t) v (s ∷ t ∷ v) (λ x. length x ≤ suc (suc (length v))) (λ _. omega arith) (λ _. omega arith)

module _ (p : Polygon) (c : List Exit) (sign : Sign) (few : length c ≤ 32) where
  -- a curve has at most 32 letters, read from any exit on
  length-turned : (i : ℕ) → length (turned i (map (λ e. e.side) c)) ≤ 32
  length-turned i =
      let w : List ℕ = map (λ e. e.side) c in
      omega (arith, length-append (drop i w) (take i w), length-append (take i w) (drop i w), ap length (take-append-drop i w), length-map c (λ (e : Exit). e.side))

  -- and as many back
  length-inverse : (w : List ℕ) → length (inverse p w) ≡ length w
  length-inverse w = length-reverse (map (partner p) w) ∙ length-map w (partner p)

  -- so from a point
  length-rho : (k j : ℕ) → length (rho p c k j) ≤ 32
  length-rho k j =
      let w : List ℕ = map (λ e. e.side) c in
      let leaves : ℕ = position_or_len (λ e. is_at e k j) c in
      let enters : ℕ = position_or_len (λ e. is_at (curve_entry p c e) k j) c in
      cond_both (nat_lt leaves (length c)) (turned leaves w) (inverse p (turned (suc enters) w)) (λ x. length x ≤ 32)
      (λ _. length-turned leaves) (λ _. omega (arith, length-inverse (turned (suc enters) w), length-turned (suc enters)))

  -- for either sign
  length-signed : (sign : Sign) (w : List ℕ) → length w ≤ 32 → length (signed p sign w) ≤ 32
  length-signed Plus w h = h
  length-signed Minus w h = omega (arith, length-inverse w)

  -- a side has at most 64 points of the curve
  pub length-push_at : (k : ℕ) → length (push_at p c sign k) ≤ 2048
  length-push_at k =
      omega (
        arith,
        length_product (λ j. signed p sign (rho p c k j)) 32 (below (curve_points p c k)) (λ j. length-signed sign (rho p c k j) (length-rho k j)),
        length-range_with_len 0 (curve_points p c k),
        count_by-le-length (λ e. nat_eq e.side k) c,
        count_by-le-length (λ e. nat_eq (partner p e.side) k) c,
      )

module _ (p : Polygon) (ok : Pairs p) where
  -- the letters of a word that is turned are sides
  sides_turned : (i : ℕ) (w : List ℕ) → AreSides p w → AreSides p (turned i w)
  sides_turned i w h s m = elim (mem_append s (drop i w) (take i w) m) [
    | inl k ↦ h s (subst (Mem s) (take-append-drop i w) (mem_right s (take i w) (drop i w) k))
    | inr k ↦ h s (subst (Mem s) (take-append-drop i w) (mem_left s (take i w) (drop i w) k))
  ]

  -- of its inverse
  sides_inverse : (w : List ℕ) → AreSides p w → AreSides p (inverse p w)
  sides_inverse w h s m = let (t, k, e) = from_back (side_letters p ok) w s m in subst (λ z. z < sides p) (sym e) (ok.in_range t (h t k))

  -- and of what stands for either sign
  sides_signed : (sign : Sign) (w : List ℕ) → AreSides p w → AreSides p (signed p sign w)
  sides_signed Plus w h = h
  sides_signed Minus w h = sides_inverse w h

  module _ (c : List Exit) (curve : IsCurve p c) (sign : Sign) where
    -- the letters of the curve are sides
    sides_curve : AreSides p (map (λ e. e.side) c)
    sides_curve s m = let (e, k, is) = mem_map (λ (e : Exit). e.side) s c m in subst (λ z. z < sides p) (sym is) (curve.in_range e k).0

    -- and those read from a point of it
    sides_rho : (k j : ℕ) → AreSides p (rho p c k j)
    sides_rho k j =
        let w : List ℕ = map (λ e. e.side) c in
        let leaves : ℕ = position_or_len (λ e. is_at e k j) c in
        let enters : ℕ = position_or_len (λ e. is_at (curve_entry p c e) k j) c in
        cond_both (nat_lt leaves (length c)) (turned leaves w) (inverse p (turned (suc enters) w)) (AreSides p)
        (λ _. sides_turned leaves w sides_curve) (λ _. sides_inverse (turned (suc enters) w) (sides_turned (suc enters) w sides_curve))

    -- and those of a push
    sides_push : (k : ℕ) → AreSides p (push_at p c sign k)
    sides_push k s m =
        let (j, _, n) = from_flat_map (λ j. signed p sign (rho p c k j)) s (below (curve_points p c k)) m in
        sides_signed sign (rho p c k j) (sides_rho k j) s n

    -- a word that is a push holds sides alone
    pub push_in_range : (k : ℕ) (push : List ℕ) → push ≡ push_at p c sign k → All (λ s. s < sides p) push
    push_in_range k push is i d l = sides_push k (get_or push i d) (subst (Mem (get_or push i d)) is (mem_get_or push i d l))

    -- and so does its reduced form
    sides_reduced : (k : ℕ) → AreSides p (reduced p (push_at p c sign k))
    sides_reduced k s m = sides_push k s (from_cancelled (side_letters p ok) (push_at p c sign k) s (subst (Mem s) (reduced_is p ok (push_at p c sign k)) m))

    -- the words of the table of pushes
    table_at : (pushes : List (List ℕ)) → pushes ≡ reduced_pushes p c sign → (k : ℕ) (d : List ℕ) → k < length pushes → get_or pushes k d ≡ reduced p (push_at p c sign k)
    table_at pushes is k d l =
        let small : k < sides p = omega (arith, ap length is, length-map-range_with_len (λ k. reduced p (push_at p c sign k)) 0 (sides p)) in
        ap (λ xs. get_or xs k d) is ∙ get_or-map-range_with_len (λ k. reduced p (push_at p c sign k)) 0 (sides p) k k d small (omega arith)

    -- hold sides alone
    pub pushes_in_range : (pushes : List (List ℕ)) → pushes ≡ reduced_pushes p c sign → All (λ push. All (λ s. s < sides p) push) pushes
    pushes_in_range pushes is k d l i e m =
        let at = table_at pushes is k d l in
        sides_reduced k (get_or (get_or pushes k d) i e) (subst (Mem (get_or (get_or pushes k d) i e)) at (mem_get_or (get_or pushes k d) i e m))

    -- are reduced
    pub pushes_reduced : (pushes : List (List ℕ)) → pushes ≡ reduced_pushes p c sign → All (λ push. reduced p push ≡ push) pushes
    pushes_reduced pushes is k d l =
        let at = table_at pushes is k d l in
        ap (reduced p) at ∙ (reduced_free p (reduced p (push_at p c sign k)) (Free-reduced p (push_at p c sign k)) ∙ sym at)

    -- and are short
    pub pushes_short : length c ≤ 32 → (pushes : List (List ℕ)) → pushes ≡ reduced_pushes p c sign → All (λ push. length push ≤ 2048) pushes
    pushes_short few pushes is k d l =
        omega (arith, ap length (table_at pushes is k d l), length-reduced p (push_at p c sign k), length-push_at p c sign few k)

-- the product over the pushes of a table is that of the pushes
pub table_product : (n : ℕ) (f : ℕ → List ℕ) (xs : List ℕ) → ((x : ℕ) → Mem x xs → x < n) → flat_map (λ k. get_or (map f (below n)) k []) xs ≡ flat_map f xs
table_product n f [] h = refl
table_product n f (x ∷ xs) h =
    rw (get_or-map-range_with_len f 0 n x x [] (h x (inl refl)) (omega arith)) (ap (λ z. f x ++ z) (table_product n f xs (λ y m. h y (inr m))))

-- the sides passed are sides
pub passed_in_range : (p : Polygon) → 0 < sides p → (u v s : ℕ) → Mem s (passed p u v) → s < sides p
passed_in_range p some u v s m =
    let (i, _, e) = mem_map (λ (i : ℕ). (u + 1 + i) % sides p) s (below ((v + sides p - u) % sides p)) m in
    omega (arith, e)
