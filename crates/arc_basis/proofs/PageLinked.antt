-- The polygons of a page are linked through its labels.
use Rattle.std.proofs.Common.{◌≡◌, ℕ, zero, suc, ◌<◌, ◌≤◌, Bool, true, false, cond, eqb, ltb, ◌||◌, List, [], ◌∷◌, ◌++◌, length, filter, get_or, refl, sym, ap, subst, ◌∙◌, inl, inr, arith}
use Rattle.std.specs.List.{list_any}
use Rattle.std.specs.Str.{bytes_eq}
use Rattle.std.proofs.lemmas.Bool.{cases_Bool, eqb-true, ltb-false, false≢true, or_cases}
use Rattle.std.proofs.lemmas.List.FromFn.{length-range_with_len}
use Rattle.std.proofs.lemmas.List.Sums.{count_by-le-length, fold-append, length-filter}
use Rattle.std.proofs.lemmas.Slice.Eq.{bytes_eq-Decides}
use Rattle.obd_base.specs.Lists.{Mem, below}
use Rattle.obd_base.proofs.lists.Below.{below_mem, mem_below}
use Rattle.obd_base.proofs.lists.Members.{filter_mem, mem_filter, mem_left, mem_right}
use Rattle.page_surface.specs.declared.page.SideLabel.{SideLabel}
use Rattle.page_surface.specs.declared.refusal.PageRefusal.TheVariants.{NotJoined}
use Rattle.page_surface.specs.Joining.{side}
use Rattle.page_surface.specs.Labels.{Label, all_sides, label_number, labels_of, side_labels, side_labels_of, with_label, with_labels}
use Rattle.page_surface.specs.Page.{IsPage, is_next_to, reached_count, reached_within, refusals, share_label}
use Rattle.arc_basis.proofs.LabelCounts.{stands}
use Rattle.obd_base.proofs.Options.{each_none, fails_where_none}
use Rattle.page_surface.proofs.Names.{number_kept}
use Rattle.page_surface.proofs.Sides.{length-side_labels_of}
use Rattle.arc_basis.proofs.Places.{mem_at}
use Rattle.arc_basis.proofs.Rows.{named_in_row, once_in_row, sides_of}
use Rattle.arc_basis.proofs.Linked.{AgreeAlong, AreLinked, one_home}
use Rattle.arc_basis.proofs.OneItem.{index_of}

-- a label that stands on a polygon has a side there
there : (appeared names more : List Label) (x : Label) → list_any (bytes_eq x) names ≡ true
    → (o : ℕ) × (o ≤ 1) × Mem (side (label_number (with_labels appeared (names ++ more)) x) o) (side_labels appeared names)
there appeared [] more x h = absurd (false≢true h)
there appeared (y ∷ names) more x h = elim (cases_Bool (bytes_eq x y)) [
  | inl t ↦
      let e : x ≡ y = (bytes_eq-Decides x y).0 t in
      let number = ap (label_number (with_labels appeared ((y ∷ names) ++ more))) e ∙ number_kept appeared y (names ++ more) in
      (cond (list_any (bytes_eq y) appeared) 1 0, bit_le (list_any (bytes_eq y) appeared), inl (ap (λ n. side n (cond (list_any (bytes_eq y) appeared) 1 0)) number))
  | inr f ↦ (let (o, l, m) = there (with_label appeared y) names more x (rw f at h) in (o, l, inr m))
]
  where
    bit_le : (b : Bool) → cond {A = ℕ} b 1 0 ≤ 1
    bit_le true = omega arith
    bit_le false = omega arith

on_polygon : (appeared : List Label) (polygons : List (List Label)) (p : ℕ) (x : Label) → p < length polygons → list_any (bytes_eq x) (get_or polygons p []) ≡ true
    → (o : ℕ) × (o ≤ 1) × Mem (side (label_number (with_labels appeared (all_sides polygons)) x) o) (get_or (side_labels_of appeared polygons) p [])
on_polygon appeared [] p x l h = absurd (omega arith)
on_polygon appeared (names ∷ polygons) zero x l h = there appeared names (all_sides polygons) x h
on_polygon appeared (names ∷ polygons) (suc p) x l h =
    let (o, b, m) = on_polygon (with_labels appeared names) polygons p x (omega arith) h in
    (o, b, subst (λ ls. Mem (side (label_number ls x) o) (get_or (side_labels_of (with_labels appeared names) polygons) p [])) (sym (fold-append with_label appeared names (all_sides polygons))) m)

-- some label stands on both
shared : (first second : List Label) → share_label first second ≡ true → (x : Label) × (list_any (bytes_eq x) first ≡ true) × (list_any (bytes_eq x) second ≡ true)
shared first second h = go first h
  where
    go : (names : List Label) → list_any (λ label. list_any (bytes_eq label) second) names ≡ true → (x : Label) × (list_any (bytes_eq x) names ≡ true) × (list_any (bytes_eq x) second ≡ true)
    go [] h = absurd (false≢true h)
    go (x ∷ names) h = elim (cases_Bool (list_any (bytes_eq x) second)) [
      | inl t ↦ (x, (rw ((bytes_eq-Decides x x).1 refl) refl), t)
      | inr f ↦ (let (y, a, b) = go names (rw f at h) in (y, or_second (bytes_eq y x) _ a, b))
    ]
      where
        or_second : (a b : Bool) → b ≡ true → (a || b) ≡ true
        or_second true b e = refl
        or_second false b e = e

module _ (page : List (List Label)) (valid : IsPage page) where
  member : (q : ℕ) → q < length page → Mem (get_or (side_labels_of [] page) q []) (side_labels_of [] page)
  member q l = mem_at (side_labels_of [] page) q [] (omega (arith, l, length-side_labels_of [] page))

  -- each side stands at most once
  few : (number o : ℕ) → number < length (labels_of page) → o ≤ 1 → stands number o (sides_of (side_labels_of [] page)) ≤ 1
  few number o l b = omega (arith, once_in_row page valid number o l b)

  module _ (colour : List SideLabel → Bool) (agree : AgreeAlong colour (side_labels_of [] page)) where
    abbrev colour_of : ℕ → Bool
    colour_of q = colour (get_or (side_labels_of [] page) q [])

    -- two polygons with a side of one label have one colour
    by_sides : (q r number o u : ℕ) → q < length page → r < length page → number < length (labels_of page) → o ≤ 1 → u ≤ 1
        → Mem (side number o) (get_or (side_labels_of [] page) q []) → Mem (side number u) (get_or (side_labels_of [] page) r []) → colour_of q ≡ colour_of r
    by_sides q r number zero zero lq lr ln lo lu m k = one_home (side_labels_of [] page) number 0 (few number 0 ln lo) colour _ _ (member q lq) (member r lr) m k
    by_sides q r number zero (suc zero) lq lr ln lo lu m k = agree number _ _ (member q lq) (member r lr) m k
    by_sides q r number (suc zero) zero lq lr ln lo lu m k = sym (agree number _ _ (member r lr) (member q lq) k m)
    by_sides q r number (suc zero) (suc zero) lq lr ln lo lu m k = one_home (side_labels_of [] page) number 1 (few number 1 ln lo) colour _ _ (member q lq) (member r lr) m k
    by_sides q r number (suc (suc o)) u lq lr ln lo lu m k = absurd (omega arith)
    by_sides q r number zero (suc (suc u)) lq lr ln lo lu m k = absurd (omega arith)
    by_sides q r number (suc zero) (suc (suc u)) lq lr ln lo lu m k = absurd (omega arith)

    one_colour : (q r : ℕ) → q < length page → r < length page → share_label (get_or page q []) (get_or page r []) ≡ true → colour_of q ≡ colour_of r
    one_colour q r lq lr h =
        let (x, a, b) = shared (get_or page q []) (get_or page r []) h in
        let (o, bo, m) = on_polygon [] page q x lq a in
        let (u, bu, k) = on_polygon [] page r x lr b in
        let named = named_in_row page valid (side (label_number (labels_of page) x) o) (in_row (side (label_number (labels_of page) x) o) (side_labels_of [] page) _ (member q lq) m) in
        by_sides q r (label_number (labels_of page) x) o u lq lr named.0 bo bu m k
      where
        in_row : (s : SideLabel) (ps : List (List SideLabel)) (p : List SideLabel) → Mem p ps → Mem s p → Mem s (sides_of ps)
        in_row s [] p m k = absurd m
        in_row s (q ∷ ps) p (inl e) k = mem_left s q (sides_of ps) (subst (λ x. Mem s x) e k)
        in_row s (q ∷ ps) p (inr m) k = mem_right s q (sides_of ps) (in_row s ps p m k)

    -- what is reached has the colour of the first polygon
    reached : (steps : ℕ) → 0 < length page → (q : ℕ) → Mem q (reached_within page steps) → (q < length page) × (colour_of q ≡ colour_of 0)
    reached zero l q (inl e) = (omega (arith, e, l), ap colour_of e)
    reached zero l q (inr m) = absurd m
    reached (suc steps) l q m =
        let (k, t) = mem_filter (is_next_to page (reached_within page steps)) q (below (length page)) m in
        let lq = mem_below (length page) q k in
        let (r, mr, hr) = some_near (reached_within page steps) q t in
        let (lr, er) = reached steps l r mr in (
          lq,
          elim (or_cases (eqb q r) _ hr) [
            | inl e ↦ ap colour_of (eqb-true q r e) ∙ er
            | inr s ↦ one_colour q r lq lr s ∙ er
          ],
        )
      where
        some_near : (rs : List ℕ) (q : ℕ) → is_next_to page rs q ≡ true → (r : ℕ) × Mem r rs × ((eqb q r || share_label (get_or page q []) (get_or page r [])) ≡ true)
        some_near [] q h = absurd (false≢true h)
        some_near (r ∷ rs) q h = elim (or_cases (eqb q r || share_label (get_or page q []) (get_or page r [])) (is_next_to page rs q) h) [
          | inl t ↦ (r, inl refl, t)
          | inr t ↦ (let (x, m, k) = some_near rs q t in (x, inr m, k))
        ]

  -- so the polygons of a page are linked
  pub page_linked : 0 < length page → AreLinked (side_labels_of [] page)
  page_linked some colour agree p r m k =
      let (i, li, ei) = index_of p (side_labels_of [] page) [] m in
      let (u, lu, eu) = index_of r (side_labels_of [] page) [] k in
      let size = length-side_labels_of [] page in
      sym (ap colour ei) ∙ ((from i (omega (arith, li, size))).1 ∙ (sym (from u (omega (arith, lu, size))).1 ∙ ap colour eu))
    where
      all_joined : length page ≤ reached_count page
      all_joined =
          let rules = each_none (refusals page) valid in
          ltb-false (reached_count page) (length page) (fails_where_none (ltb (reached_count page) (length page)) (NotJoined (reached_count page) (length page)) rules.1.1.1.1.1.0)

      -- a filter that leaves as many leaves all
      nothing_left : (q : ℕ → Bool) (xs : List ℕ) → length xs ≤ length (filter q xs) → (x : ℕ) → Mem x xs → q x ≡ true
      nothing_left q [] l x m = absurd m
      nothing_left q (y ∷ xs) l x m = go (nothing_left q xs) (q y) refl m
        where
          few_left : (xs : List ℕ) → length (filter q xs) ≤ length xs
          few_left xs = omega (arith, length-filter q xs, count_by-le-length q xs)

          go : (length xs ≤ length (filter q xs) → (x : ℕ) → Mem x xs → q x ≡ true) → (b : Bool) → q y ≡ b → Mem x (y ∷ xs) → q x ≡ true
          go ih true t (inl e) = ap q e ∙ t
          go ih true t (inr k) = ih (let n : length (filter q (y ∷ xs)) ≡ suc (length (filter q xs)) = rw t refl in omega (arith, l, n)) x k
          go ih false f k = absurd (let n : length (filter q (y ∷ xs)) ≡ length (filter q xs) = rw f refl in omega (arith, l, n, few_left xs))

      from : (i : ℕ) → i < length page → (i < length page) × (colour_of colour agree i ≡ colour_of colour agree 0)
      from i l = step (length page) refl
        where
          step : (n : ℕ) → n ≡ length page → (i < length page) × (colour_of colour agree i ≡ colour_of colour agree 0)
          step zero e = absurd (omega (arith, e, l))
          step (suc n) e =
              let all : length (below (length page)) ≤ length (filter (is_next_to page (reached_within page n)) (below (length page)))
              = (let c = ap (λ k. length (reached_within page k)) e in omega (arith, all_joined, c, length-range_with_len 0 (length page))) in
              let passes = nothing_left (is_next_to page (reached_within page n)) (below (length page)) all i (below_mem (length page) i l) in
              reached colour agree (suc n) some i (filter_mem (is_next_to page (reached_within page n)) i (below (length page)) (below_mem (length page) i l) passes)
