-- The marked polygons are those that are reached.
use Rattle.std.proofs.Common.{◌≡◌, ℕ, zero, suc, ◌<◌, Bool, true, false, eqb, ◌||◌, ◌&&◌, List, [], ◌∷◌, map, length, get_or, set, replicate, filter, count_by, refl, sym, ap, ◌∙◌, arith, inl, inr, None}
use Rattle.std.specs.List.{list_any, position}
use Rattle.std.specs.Str.{bytes_eq}
use Rattle.std.proofs.lemmas.Bool.{cases_eq, eq-eqb, ne_eqb, eqb-true, false≢true, or_cases, or_left, or_right, and_parts, and_from}
use Rattle.std.proofs.lemmas.List.{get_or-map, length-map, get_or-set_same, get_or-set_other, get_or-replicate, length-set, length-replicate}
use Rattle.std.proofs.lemmas.List.FromFn.{fill_by_all, length-map-range_with_len, get_or-map-range_with_len}
use Rattle.std.proofs.lemmas.List.Sums.{length-filter}
use Rattle.std.proofs.lemmas.Slice.Eq.{bytes_eq-Decides}
use Rattle.obd_base.specs.Lists.{Mem, below, has}
use Rattle.obd_base.proofs.lists.Below.{below_mem, has_filter, has_range}
use Rattle.obd_base.proofs.lists.Members.{filter_mem}
use Rattle.obd_base.proofs.lists.Counts.{count_by-map}
use Rattle.page_surface.specs.declared.page.SideLabel.{SideLabel}
use Rattle.page_surface.specs.Labels.{Label, labels_of, label_number, side_labels_of}
use Rattle.page_surface.specs.Marks.{is_of, is_marked, marked_next, marked_within}
use Rattle.page_surface.specs.Page.{is_empty, is_next_to, reached_within, reached_count, share_label}
use Rattle.page_surface.proofs.Empty.{each_full}
use Rattle.page_surface.proofs.FewSides.{AreAmong}
use Rattle.page_surface.proofs.LabelNumbers.{has as has_label}
use Rattle.page_surface.proofs.SideNumbers.{any_by_number, has_of_number, names_among}
use Rattle.page_surface.proofs.Sides.{length-side_labels_of}

-- two tests agree where each passes with the other
agree : (a b : Bool) → (a ≡ true → b ≡ true) → (b ≡ true → a ≡ true) → a ≡ b
agree true b to from = sym (to refl)
agree false true to from = from refl
agree false false to from = refl

-- a number of the list that passes
any_from_has : (p : ℕ → Bool) (xs : List ℕ) (r : ℕ) → has xs r ≡ true → p r ≡ true → list_any p xs ≡ true
any_from_has p [] r h t = absurd (false≢true h)
any_from_has p (x ∷ xs) r h t = elim (or_cases (eqb r x) (has xs r) h) [
  | inl e ↦ or_left _ _ (ap p (sym (eqb-true r x e)) ∙ t)
  | inr k ↦ or_right _ _ (any_from_has p xs r k t)
]

has_from_any : (p : ℕ → Bool) (xs : List ℕ) → list_any p xs ≡ true → (r : ℕ) × (has xs r ≡ true) × (p r ≡ true)
has_from_any p [] h = absurd (false≢true h)
has_from_any p (x ∷ xs) h = elim (or_cases (p x) (list_any p xs) h) [
  | inl t ↦ (x, or_left _ _ (eq-eqb x x refl), t)
  | inr k ↦ let (r, m, t) = has_from_any p xs k in (r, or_right _ _ m, t)
]

-- the label of a marked polygon's side is marked
marked_from : (polygons : List (List SideLabel)) (marks : List Bool) (label r : ℕ) → r < length polygons → get_or marks r false ≡ true
    → list_any (is_of label) (get_or polygons r []) ≡ true → is_marked polygons marks label ≡ true
marked_from [] marks label r l m h = absurd (omega arith)
marked_from (p ∷ polygons) [] label r l m h = absurd (false≢true m)
marked_from (p ∷ polygons) (mark ∷ marks) label zero l m h = or_left _ _ (and_from _ _ m h)
marked_from (p ∷ polygons) (mark ∷ marks) label (suc r) l m h = or_right _ _ (marked_from polygons marks label r (omega arith) m h)

-- and a marked label is that of a marked polygon's side
marked_to : (polygons : List (List SideLabel)) (marks : List Bool) (label : ℕ) → is_marked polygons marks label ≡ true
    → (r : ℕ) × (r < length polygons) × (get_or marks r false ≡ true) × (list_any (is_of label) (get_or polygons r []) ≡ true)
marked_to [] marks label h = absurd (false≢true h)
marked_to (p ∷ polygons) [] label h = absurd (false≢true h)
marked_to (p ∷ polygons) (mark ∷ marks) label h = elim (or_cases (mark && list_any (is_of label) p) (is_marked polygons marks label) h) [
  | inl both ↦ let parts = and_parts mark (list_any (is_of label) p) both in (0, omega arith, parts.0, parts.1)
  | inr k ↦ let (r, l, m, t) = marked_to polygons marks label k in (suc r, omega arith, m, t)
]

-- a polygon with a side shares a label with itself
shares_with_itself : (names : List Label) → is_empty names ≡ false → share_label names names ≡ true
shares_with_itself [] full = absurd (false≢true (sym full))
shares_with_itself (x ∷ names) full = or_left _ _ (or_left _ _ ((bytes_eq-Decides x x).1 refl))

-- where one is found on some names, another is that passes with it
any_weaker : (labels names : List Label) (p q : Label → Bool) → AreAmong labels names → ((x : Label) → has_label labels x ≡ true → p x ≡ true → q x ≡ true)
    → list_any p names ≡ true → list_any q names ≡ true
any_weaker labels [] p q among weaker h = absurd (false≢true h)
any_weaker labels (x ∷ names) p q (here, rest) weaker h = elim (or_cases (p x) (list_any p names) h) [
  | inl t ↦ or_left _ _ (weaker x here t)
  | inr k ↦ or_right _ _ (any_weaker labels names p q rest weaker k)
]

-- a member is found
has_from_mem : (x : ℕ) (xs : List ℕ) → Mem x xs → has xs x ≡ true
has_from_mem x [] m = absurd m
has_from_mem x (y ∷ xs) (inl e) = or_left _ _ (eq-eqb x y e)
has_from_mem x (y ∷ xs) (inr m) = or_right _ _ (has_from_mem x xs m)

-- what passes among the numbers below n is found among those that pass
marks_of_filter : (p : ℕ → Bool) (n : ℕ) → map p (below n) ≡ map (has (filter p (below n))) (below n)
marks_of_filter p n =
    fill_by_all (has (filter p (below n))) (map p (below n)) n false (length-map-range_with_len p 0 n)
    (λ k l. get_or-map-range_with_len p 0 n k k false l (omega arith)
    ∙ agree _ _ (λ t. has_from_mem k (filter p (below n)) (filter_mem p k (below n) (below_mem n k l) t)) (λ h. (has_filter p (below n) k h).0))

module _ (polygons : List (List Label)) (full : (q : ℕ) → q < length polygons → is_empty (get_or polygons q []) ≡ false) where
  module _ (xs : List ℕ) (in_range : (r : ℕ) → has xs r ≡ true → r < length polygons) (q : ℕ) (l : q < length polygons) where
    -- the label, by its number, is marked on the polygons of the list
    abbrev marked : ℕ → Bool
    marked label = is_marked (side_labels_of [] polygons) (map (has xs) (below (length polygons))) label

    -- a marked label leads to a polygon of the list
    next_from_marked : list_any (λ x. marked (label_number (labels_of polygons) x)) (get_or polygons q []) ≡ true → is_next_to polygons xs q ≡ true
    next_from_marked = go (get_or polygons q []) (names_among polygons q) (λ r h t. any_from_has _ xs r h (or_right _ _ t))
      where
        go : (names : List Label) → AreAmong (labels_of polygons) names
            → ((r : ℕ) → has xs r ≡ true → share_label names (get_or polygons r []) ≡ true → is_next_to polygons xs q ≡ true)
            → list_any (λ x. marked (label_number (labels_of polygons) x)) names ≡ true → is_next_to polygons xs q ≡ true
        go [] among leads h = absurd (false≢true h)
        go (x ∷ names) (here, rest) leads h = elim (or_cases (marked (label_number (labels_of polygons) x)) _ h) [
          | inl t ↦
              let (r, k, m, u) = marked_to (side_labels_of [] polygons) (map (has xs) (below (length polygons))) (label_number (labels_of polygons) x) t in
              let small : r < length polygons = omega (arith, length-side_labels_of [] polygons) in
              let is : get_or (map (has xs) (below (length polygons))) r false ≡ has xs r = get_or-map-range_with_len (has xs) 0 (length polygons) r r false small (omega arith) in
              leads r (sym is ∙ m) (or_left _ _ (sym (has_of_number polygons x r here) ∙ u))
          | inr k ↦ go names rest (λ r h t. leads r h (or_right _ _ t)) k
        ]

    -- and a polygon of the list that shares a label marks it
    marked_from_next : is_next_to polygons xs q ≡ true → list_any (λ x. marked (label_number (labels_of polygons) x)) (get_or polygons q []) ≡ true
    marked_from_next h =
        let (r, m, t) = has_from_any (λ r. eqb q r || share_label (get_or polygons q []) (get_or polygons r [])) xs h in
        let small : r < length polygons = in_range r m in
        let is : get_or (map (has xs) (below (length polygons))) r false ≡ has xs r = get_or-map-range_with_len (has xs) 0 (length polygons) r r false small (omega arith) in
        let shared : share_label (get_or polygons q []) (get_or polygons r []) ≡ true
        = elim (or_cases (eqb q r) _ t) [
          | inl e ↦ rw (← eqb-true q r e) (shares_with_itself (get_or polygons q []) (full q l))
          | inr s ↦ s
        ] in
        any_weaker (labels_of polygons) (get_or polygons q []) (λ x. list_any (bytes_eq x) (get_or polygons r [])) _ (names_among polygons q)
        (λ x here u. marked_from (side_labels_of [] polygons) (map (has xs) (below (length polygons))) _ r (omega (arith, length-side_labels_of [] polygons)) (is ∙ m) (has_of_number polygons x r here ∙ u))
        shared

    -- so the polygon is marked next where it is next to the list
    marked_where_next : list_any (λ s. marked s.label) (get_or (side_labels_of [] polygons) q []) ≡ is_next_to polygons xs q
    marked_where_next = any_by_number polygons marked q ∙ agree _ _ next_from_marked marked_from_next

  -- a round leads from the marks of a list to those of what is next to it
  round : (xs : List ℕ) → ((r : ℕ) → has xs r ≡ true → r < length polygons)
      → marked_next (side_labels_of [] polygons) (map (has xs) (below (length polygons))) ≡ map (is_next_to polygons xs) (below (length polygons))
  round xs in_range =
      let marks : List Bool = map (has xs) (below (length polygons)) in
      let sides : List (List SideLabel) = side_labels_of [] polygons in
      fill_by_all (is_next_to polygons xs) (marked_next sides marks) (length polygons) false (length-map sides _ ∙ length-side_labels_of [] polygons)
      (λ k l. get_or-map (list_any (λ s. is_marked sides marks s.label)) sides k [] false (omega (arith, length-side_labels_of [] polygons)) ∙ marked_where_next xs in_range k l)

  -- what was reached lies in range
  reached_in_range : (steps : ℕ) → 0 < length polygons → (r : ℕ) → has (reached_within polygons steps) r ≡ true → r < length polygons
  reached_in_range zero some r h = elim (or_cases (eqb r 0) false h) [ inl e ↦ (let is : r ≡ 0 = eqb-true r 0 e in omega arith) | inr e ↦ absurd (false≢true e) ]
  reached_in_range (suc steps) some r h =
      omega (arith, (has_range 0 (length polygons) r (has_filter (is_next_to polygons (reached_within polygons steps)) (below (length polygons)) r h).1).1)

  -- the marks after so many rounds are those of what is reached
  marks_reached : (steps : ℕ) → 0 < length polygons
      → marked_within (side_labels_of [] polygons) steps ≡ map (has (reached_within polygons steps)) (below (length polygons))
  marks_reached zero some = rw length-side_labels_of (
      fill_by_all (has (0 ∷ [])) (set (replicate (length polygons) false) 0 true) (length polygons) false (length-set _ 0 true ∙ length-replicate (length polygons) false)
      (λ k l. elim (cases_eq k 0) [
        | inl e ↦ rw e (get_or-set_same _ 0 true false (omega (arith, length-replicate (length polygons) false)))
        | inr ne ↦ get_or-set_other _ 0 k true false ne ∙ (get_or-replicate (length polygons) k false false l ∙ sym (ap (λ b. b || false) (ne_eqb k 0 ne)))
      ]))
  marks_reached (suc steps) some =
      ap (marked_next (side_labels_of [] polygons)) (marks_reached steps some)
      ∙ (round (reached_within polygons steps) (reached_in_range steps some) ∙ marks_of_filter (is_next_to polygons (reached_within polygons steps)) (length polygons))

  -- so as many polygons are marked in the end as are reached
  count_of_marks : (n : ℕ) → n ≡ length polygons → 0 < n → count_by (λ mark. mark) (marked_within (side_labels_of [] polygons) n) ≡ length (reached_within polygons n)
  count_of_marks zero e some = absurd (omega arith)
  count_of_marks (suc m) e some =
      let some : 0 < length polygons = omega arith in
      let p : ℕ → Bool = is_next_to polygons (reached_within polygons m) in
      ap (count_by (λ mark. mark)) (ap (marked_next (side_labels_of [] polygons)) (marks_reached m some) ∙ round (reached_within polygons m) (reached_in_range m some))
      ∙ (count_by-map (λ mark. mark) p (below (length polygons)) ∙ sym (length-filter p (below (length polygons))))

-- as many polygons are marked in the end as are reached
pub reached_marks : (polygons : List (List Label)) → 0 < length polygons → position is_empty polygons ≡ None
    → count_by (λ mark. mark) (marked_within (side_labels_of [] polygons) (length (side_labels_of [] polygons))) ≡ reached_count polygons
reached_marks polygons some none =
    rw (length-side_labels_of [] polygons)
    (count_of_marks polygons (each_full polygons none) (length polygons) refl some)
