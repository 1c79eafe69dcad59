-- The tables of the sides after a slide, as they are filled.
use Rattle.std.proofs.Common.{◌≡◌, ◌≢◌, ℕ, ◌+◌, ◌-◌, ◌%◌, ◌<◌, ◌≤◌, cond, eqb, List, [], ◌∷◌, ◌++◌, map, length, take, drop, get_or, set, sym, subst, ap, ◌∙◌, inl, inr, arith}
use Rattle.std.specs.Prelude.{All}
use Rattle.std.specs.List.{count_by, flat_map, position_or_len, range_with_len}
use Rattle.std.proofs.Math.Nat.{mod-eq_of_lt, mod-eq-sub-mod}
use Rattle.std.proofs.lemmas.Bool.{cases_eq, cases_lt, eqb-true, eq-eqb}
use Rattle.std.proofs.lemmas.List.{append-nil, get_or-drop, get_or-set_other, get_or-set_same, get_or_append_left, get_or-append-add, length-append, length-drop, length-set, map-append, take_all, take_more}
use Rattle.std.proofs.lemmas.List.Concat.{flat_map-append}
use Rattle.std.proofs.lemmas.List.FromFn.{fill_by_all, get_or-map-range_with_len, get_or-range_with_len, length-map-range_with_len, length-range_with_len}
use Rattle.obd_base.specs.Lists.{Mem, below}
use Rattle.page_surface.specs.Polygon.{IsPolygon, Polygon, partner, sides}
use Rattle.curve_paths.specs.Curves.{turned}
use Rattle.handle_slide.specs.Slide.{new_number, side_after, slid_sides}
use Rattle.handle_slide.proofs.NewNumbers.{length-slid}
use Rattle.handle_slide.proofs.Order.{slid_less, slid_once, turned_range}
use Rattle.obd_base.proofs.lists.Maps.{map_same}
use Rattle.curve_paths.proofs.Members.{mem_get_or}
use Rattle.arc_basis.proofs.OneItem.{one_there, only_one}

-- the sides after the first two, read round
rest_at : (n k m : ℕ) → k < n → m < n - 2 → get_or (drop 2 (turned k (below n))) m 0 ≡ (k + 2 + m) % n
rest_at n k m lk lm = get_or-drop 2 (turned k (below n)) m 0 ∙ (ap (λ xs. get_or xs (2 + m) 0) (turned_range n k lk) ∙ go)
  where
    go : get_or (range_with_len k (n - k) ++ below k) (2 + m) 0 ≡ (k + 2 + m) % n
    go = elim (cases_lt (2 + m) (n - k)) [
      | inl h ↦
          get_or_append_left (range_with_len k (n - k)) (below k) 0 (2 + m) (omega (arith, h, length-range_with_len k (n - k)))
          ∙ (get_or-range_with_len k (n - k) (2 + m) 0 h ∙ ((let z : k + (2 + m) ≡ k + 2 + m = omega arith in z) ∙ sym (mod-eq_of_lt (let z : k + 2 + m < n = omega (arith, h) in z))))
      | inr h ↦
          let j : ℕ = k + 2 + m - n in
          let at : 2 + m ≡ length (range_with_len k (n - k)) + j = omega (arith, length-range_with_len k (n - k), h, lk) in
          ap (λ i. get_or (range_with_len k (n - k) ++ below k) i 0) at
          ∙ (get_or-append-add (range_with_len k (n - k)) (below k) j 0
          ∙ (get_or-range_with_len 0 k j 0 (omega (arith, lm, h, lk))
          ∙ ((let z : 0 + j ≡ k + 2 + m - n = omega arith in z)
          ∙ sym (mod-eq-sub-mod {n = k + 2 + m} {m = n} (omega (arith, h, lk)) ∙ mod-eq_of_lt (let z : k + 2 + m - n < n = omega (arith, lm, h, lk) in z)))))
    ]

length-rest : (n k : ℕ) → k < n → length (drop 2 (turned k (below n))) ≡ n - 2
length-rest n k lk =
    omega (arith, length-drop 2 (turned k (below n)), ap length (turned_range n k lk), length-append (range_with_len k (n - k)) (below k), length-range_with_len k (n - k), length-range_with_len 0 k, lk)

module _ (p : Polygon) (k : ℕ) where
  abbrev rest : List ℕ
  rest = drop 2 (turned k (below (sides p)))

  abbrev put : ℕ → List ℕ
  put s = cond (eqb s (partner p k)) (side_after p k ∷ s ∷ []) (s ∷ [])

  -- the sides after a slide up to a number of old ones
  abbrev pub order_so_far : ℕ → List ℕ
  order_so_far i = k ∷ flat_map (λ s. cond (eqb s (partner p k)) (side_after p k ∷ s ∷ []) (s ∷ [])) (take i (drop 2 (turned k (below (sides p)))))

  -- one more
  pub order_more : (i s : ℕ) (order new : List ℕ) → k < sides p → i < sides p - 2 → s ≡ (k + 2 + i) % sides p → order ≡ order_so_far i
      → new ≡ order ++ cond (eqb s (partner p k)) (side_after p k ∷ s ∷ []) (s ∷ []) → new ≡ order_so_far (i + 1)
  order_more i s order new lk li is so_far more =
      let one : take (i + 1) rest ≡ take i rest ++ s ∷ [] = take_more rest i 0 (omega (arith, li, length-rest (sides p) k lk)) ∙ ap (λ z. take i rest ++ z ∷ []) (rest_at (sides p) k i lk li ∙ sym is) in
      more ∙ (ap (λ z. z ++ put s) so_far
      ∙ sym (ap (λ z. k ∷ flat_map put z) one ∙ ap (λ z. k ∷ z) (flat_map-append put (take i rest) (s ∷ []) ∙ ap (λ z. flat_map put (take i rest) ++ z) (append-nil (put s)))))

  -- all
  pub order_all : (i : ℕ) (order : List ℕ) → k < sides p → sides p - 2 ≤ i → order ≡ order_so_far i → order ≡ slid_sides p k
  order_all i order lk li so_far = so_far ∙ ap (λ z. k ∷ flat_map put z) (take_all i rest (omega (arith, li, length-rest (sides p) k lk)))

-- one more partner
pub renumbered_more : (p : Polygon) (numbers order : List ℕ) (i s x : ℕ) (pairs new : List ℕ) → i < length order → s ≡ get_or order i s → x ≡ get_or numbers (partner p s) 0
    → pairs ≡ map (λ s. get_or numbers (partner p s) 0) (take i order) → new ≡ pairs ++ x ∷ [] → new ≡ map (λ s. get_or numbers (partner p s) 0) (take (i + 1) order)
renumbered_more p numbers order i s x pairs new l is ex so_far more =
    let f = λ (s : ℕ). get_or numbers (partner p s) 0 in
    let one : take (i + 1) order ≡ take i order ++ s ∷ [] = take_more order i s l ∙ ap (λ z. take i order ++ z ∷ []) (sym is) in
    more ∙ (ap (λ z. z ++ x ∷ []) so_far ∙ (ap (λ z. map f (take i order) ++ z ∷ []) ex ∙ sym (ap (map f) one ∙ map-append f (take i order) (s ∷ []))))

-- the places of the first numbers of a list are noted
pub record ArePlaces (order : List ℕ) (i : ℕ) (places : List ℕ) : Type 0 where
  pub size : length places ≡ length order
  pub noted : (j : ℕ) → j < i → get_or places (get_or order j 0) 0 ≡ j

module _ (order : List ℕ) (in_range : All (λ s. s < length order) order) (once : (s : ℕ) → s < length order → count_by (eqb s) order ≡ 1) where
  -- one more
  pub places_more : (i s : ℕ) (places : List ℕ) → i < length order → s ≡ get_or order i 0 → ArePlaces order i places → ArePlaces order (i + 1) (set places s i)
  places_more i s places l is so_far =
      let ls : s < length order = rw is (in_range i 0 l) in
      record {
        size = length-set places s i ∙ so_far.size;
        noted = λ j lj. elim (cases_eq j i) [
          | inl e ↦ ap (λ x. get_or (set places s i) x 0) (ap (λ x. get_or order x 0) e ∙ sym is) ∙ (get_or-set_same places s i 0 (omega (arith, so_far.size, ls)) ∙ sym e)
          | inr n ↦
              let less : j < i = omega (arith, lj, n) in
              get_or-set_other places s (get_or order j 0) i 0 (λ e.
              n (only_one (eqb s) order 0 j (once s ls) (omega (arith, less, l)) (eq-eqb _ _ (sym e)) ∙ sym (only_one (eqb s) order 0 i (once s ls) l (eq-eqb _ _ is)))) ∙ so_far.noted j less
        ];
      }

  -- all
  pub places_all : (i : ℕ) (places : List ℕ) → length order ≤ i → ArePlaces order i places → places ≡ map (λ s. position_or_len (eqb s) order) (below (length order))
  places_all i places li all =
      fill_by_all (λ s. position_or_len (eqb s) order) places (length order) 0 all.size (λ s ls.
      let r = one_there (eqb s) order 0 (once s ls) in
      ap (λ x. get_or places x 0) (eqb-true _ _ r.1) ∙ all.noted (position_or_len (eqb s) order) (omega (arith, r.0, li)))

module _ (p : Polygon) (is : IsPolygon p) (k : ℕ) (lk : k < sides p) (slides : side_after p k ≢ partner p k) (order : List ℕ) (made : order ≡ slid_sides p k) where
  size : length order ≡ sides p
  size = ap length made ∙ length-slid p is k lk slides

  -- the sides after a slide are sides, and each stands once
  pub all_sides : All (λ s. s < length order) order
  all_sides i d l = let m = slid_less p is k lk slides (get_or order i d) (subst (Mem (get_or order i d)) made (mem_get_or order i d l)) in omega (arith, m, size)

  pub old_sides : All (λ s. s < sides p) order
  old_sides i d l = let m = all_sides i d l in omega (arith, m, size)

  pub all_once : (s : ℕ) → s < length order → count_by (eqb s) order ≡ 1
  all_once s l = ap (count_by (eqb s)) made ∙ slid_once p is k lk slides s (omega (arith, l, size))

  -- their places are the new numbers
  pub new_numbers : (numbers : List ℕ) → numbers ≡ map (λ s. position_or_len (eqb s) order) (below (length order)) → numbers ≡ map (new_number p k) (below (sides p))
  new_numbers numbers e = e ∙ (ap (λ n. map (λ s. position_or_len (eqb s) order) (below n)) size ∙ ap (λ xs. map (λ s. position_or_len (eqb s) xs) (below (sides p))) made)

  pub new_count : (numbers : List ℕ) → numbers ≡ map (new_number p k) (below (sides p)) → length numbers ≡ sides p
  new_count numbers e = ap length e ∙ length-map-range_with_len (new_number p k) 0 (sides p)

  -- and the partners by new numbers make the new polygon
  pub new_pairs : (numbers pairs : List ℕ) → numbers ≡ map (new_number p k) (below (sides p)) → pairs ≡ map (λ s. get_or numbers (partner p s) 0) order
      → pairs ≡ map (λ s. new_number p k (partner p s)) (slid_sides p k)
  new_pairs numbers pairs en ep =
      ep ∙ (ap (map (λ s. get_or numbers (partner p s) 0)) made
      ∙ map_same (λ s. get_or numbers (partner p s) 0) (λ s. new_number p k (partner p s)) (slid_sides p k) (λ s m.
      ap (λ xs. get_or xs (partner p s) 0) en ∙ get_or-map-range_with_len (new_number p k) 0 (sides p) (partner p s) (partner p s) 0 (is.pairs.in_range s (slid_less p is k lk slides s m)) (omega arith)))
