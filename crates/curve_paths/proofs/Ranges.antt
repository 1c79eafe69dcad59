-- Each polygon of a page has a range of numbers of its own, so chords on two polygons never cross.
use Rattle.std.proofs.Common.{◌≡◌, ◌≢◌, ℕ, zero, suc, ◌+◌, ◌-◌, ◌<◌, ◌≤◌, true, false, cond, eqb, List, [], ◌∷◌, ◌++◌, length, take, flat_map, refl, sym, subst, ap, ◌∙◌, arith, inl, inr}
use Rattle.std.specs.List.{before_first, position_or_len, sum_by}
use Rattle.std.proofs.lemmas.Bool.{cases_Bool, cases_lt, eqb-true, false≢true, le-ltb, lt-ltb, or_left, or_right}
use Rattle.std.proofs.lemmas.List.{append-nil}
use Rattle.std.proofs.lemmas.List.Folds.{list_any-append}
use Rattle.std.proofs.lemmas.List.Sums.{sum_by-append, sum_by-cons}
use Rattle.obd_base.specs.Lists.{Mem}
use Rattle.page_surface.specs.declared.page.SideLabel.{SideLabel}
use Rattle.page_surface.specs.Drawing.{Chord, crosses}
use Rattle.page_surface.specs.Joining.{is_side, has_side}
use Rattle.page_surface.specs.Labels.{Label, labels_of, side_labels_of}
use Rattle.page_surface.specs.Page.{IsPage}
use Rattle.curve_paths.specs.declared.crossing.Crossing.{Crossing}
use Rattle.curve_paths.specs.Paths.{crossing_at, entered_side, following, is_within, label_points, path_chord, path_spot, polygon_at, row}
use Rattle.curve_paths.specs.PlaceTables.{ArePlaced}
use Rattle.curve_paths.proofs.Orders.{at_crossing, following_within, there_in_row}
use Rattle.arc_basis.proofs.Rows.{itself, same_side}

module _ (f : SideLabel → ℕ) (s : SideLabel) where
  -- the sum before the first place of the side
  abbrev before : List SideLabel → ℕ
  before xs = sum_by f (before_first (is_side s) xs)

  before_here : (x : SideLabel) (xs : List SideLabel) → is_side s x ≡ true → before (x ∷ xs) ≡ 0
  before_here x xs h = rw h refl

  before_later : (x : SideLabel) (xs : List SideLabel) → is_side s x ≡ false → before (x ∷ xs) ≡ f x + before xs
  before_later x xs h =
      let e : 1 + position_or_len (is_side s) xs ≡ suc (position_or_len (is_side s) xs) = omega arith in
      rw (h, e) (sum_by-cons f x (take (position_or_len (is_side s) xs) xs))

  -- a list that has the side, before other lists
  before_joined : (xs ys : List SideLabel) → has_side s xs ≡ true → (before (xs ++ ys) ≡ before xs) × (before xs + f s ≤ sum_by f xs)
  before_joined [] ys h = absurd (false≢true h)
  before_joined (x ∷ xs) ys h = elim (cases_Bool (is_side s x)) [
    | inl t ↦
        let same : f s ≡ f x = ap f (same_side s x t) in
        (before_here x (xs ++ ys) t ∙ sym (before_here x xs t), omega (arith, before_here x xs t, sum_by-cons f x xs, same))
    | inr n ↦
        let rest = before_joined xs ys (rw n at h) in
        (omega (arith, before_later x (xs ++ ys) n, before_later x xs n, rest.0), omega (arith, before_later x xs n, sum_by-cons f x xs, rest.1))
  ]

  -- a list that hasn't
  before_past : (xs ys : List SideLabel) → has_side s xs ≡ false → before (xs ++ ys) ≡ sum_by f xs + before ys
  before_past [] ys h = omega arith
  before_past (x ∷ xs) ys h = elim (cases_Bool (is_side s x)) [
    | inl t ↦ absurd (false≢true (sym (rw t at h)))
    | inr n ↦ omega (arith, before_later x (xs ++ ys) n, sum_by-cons f x xs, before_past xs ys (rw n at h))
  ]

  -- the sum over the first lists
  abbrev base : List (List SideLabel) → ℕ → ℕ
  base rows k = sum_by f (flat_map (λ row. row) (take k rows))

  -- the side's numbers lie in the range of the list that has it first
  in_range : (rows : List (List SideLabel)) → has_side s (flat_map (λ row. row) rows) ≡ true
      → (base rows (position_or_len (has_side s) rows) ≤ before (flat_map (λ row. row) rows))
      × (before (flat_map (λ row. row) rows) + f s ≤ base rows (suc (position_or_len (has_side s) rows)))
  in_range [] h = absurd (false≢true h)
  in_range (xs ∷ rows) h = elim (cases_Bool (has_side s xs)) [
    | inl t ↦
        let b = before_joined xs (flat_map (λ row. row) rows) t in
        let whole : base (xs ∷ rows) 1 ≡ sum_by f xs = ap (sum_by f) (append-nil xs) in
        rw t (omega arith, omega (arith, b, whole))
    | inr n ↦
        let rest = in_range rows (rw (list_any-append (is_side s) xs (flat_map (λ row. row) rows), n) at h) in
        let e : 1 + position_or_len (has_side s) rows ≡ suc (position_or_len (has_side s) rows) = omega arith in
        let more : (k : ℕ) → base (xs ∷ rows) (suc k) ≡ sum_by f xs + base rows k = λ k. sum_by-append f xs (flat_map (λ row. row) (take k rows)) in
        let past = before_past xs (flat_map (λ row. row) rows) n in
        rw (n, e) (omega (arith, rest.0, past, more (position_or_len (has_side s) rows)), omega (arith, rest.1, past, more (suc (position_or_len (has_side s) rows))))
  ]

-- the ranges follow one another
base_more : (f : SideLabel → ℕ) (rows : List (List SideLabel)) (a b : ℕ) → a ≤ b → sum_by f (flat_map (λ row. row) (take a rows)) ≤ sum_by f (flat_map (λ row. row) (take b rows))
base_more f rows zero b l = omega arith
base_more f rows (suc a) zero l = absurd (omega arith)
base_more f [] (suc a) (suc b) l = omega arith
base_more f (xs ∷ rows) (suc a) (suc b) l =
    omega (arith, sum_by-append f xs (flat_map (λ row. row) (take a rows)), sum_by-append f xs (flat_map (λ row. row) (take b rows)), base_more f rows a b (omega arith))

-- chords of which one ends before the other begins don't cross
apart_below : (c e : Chord) → c.from < e.from → c.to < e.from → c.from < e.to → c.to < e.to → crosses c e ≡ false
apart_below c e a b x y = rw (lt-ltb c.from e.from a, lt-ltb c.to e.from b, lt-ltb c.from e.to x, lt-ltb c.to e.to y) refl

apart_above : (c e : Chord) → e.from ≤ c.from → e.from ≤ c.to → e.to ≤ c.from → e.to ≤ c.to → crosses c e ≡ false
apart_above c e a b x y = rw (le-ltb c.from e.from a, le-ltb c.to e.from b, le-ltb c.from e.to x, le-ltb c.to e.to y) refl

module _ (page : List (List Label)) (valid : IsPage page) (cs : List Crossing) (placed : ArePlaced page cs) where
  -- the first number of a polygon
  abbrev first : ℕ → ℕ
  first q = sum_by (λ t. label_points cs t.label + 2) (flat_map (λ row. row) (take q (side_labels_of [] page)))

  -- a point of a side of polygon q has a number of polygon q
  spot_in_range : (s : SideLabel) (p q : ℕ) → s.label < length (labels_of page) → s.occurrence ≤ 1 → p < label_points cs s.label → polygon_at page s ≡ q
      → (first q ≤ path_spot page cs s p) × (path_spot page cs s p < first (suc q))
  spot_in_range s p q l o lp e =
      let there : has_side s (row page) ≡ true = any_there s (row page) (there_in_row page valid s.label s.occurrence l o) in
      let r = in_range (λ t. label_points cs t.label + 2) s (side_labels_of [] page) there in
      let below = on_below s.occurrence p (label_points cs s.label) lp in
      subst (λ q. (first q ≤ path_spot page cs s p) × (path_spot page cs s p < first (suc q))) e (omega (arith, r.0), omega (arith, r.1, below))
    where
      any_there : (s : SideLabel) (xs : List SideLabel) → Mem s xs → has_side s xs ≡ true
      any_there s [] m = absurd m
      any_there s (x ∷ xs) (inl e) = or_left _ _ (ap (is_side s) (sym e) ∙ itself s)
      any_there s (x ∷ xs) (inr m) = or_right _ _ (any_there s xs m)

      on_below : (o p n : ℕ) → p < n → cond (eqb o 0) p (n - 1 - p) < n
      on_below o p n l = elim (cases_Bool (eqb o 0)) [ inl t ↦ rw t l | inr f ↦ rw f (omega arith) ]

  -- both ends of a chord within one polygon
  ends_in_range : (i : ℕ) → i < length cs → is_within page cs i ≡ true → (q : ℕ) → polygon_at page (entered_side (crossing_at cs i)) ≡ q
      → (first q ≤ (path_chord page cs i).from) × ((path_chord page cs i).from < first (suc q)) × (first q ≤ (path_chord page cs i).to) × ((path_chord page cs i).to < first (suc q))
  ends_in_range i l w q e =
      let a = at_crossing page cs placed i (crossing_at [] 0) l in
      let b = at_crossing page cs placed (following (length cs) i) (crossing_at [] 0) (following_within (length cs) i l) in
      let from = spot_in_range (entered_side (crossing_at cs i)) (crossing_at cs i).place q a.0 (omega (arith, a.1)) a.2 e in
      let to = spot_in_range (crossing_at cs (following (length cs) i)).side (crossing_at cs (following (length cs) i)).place q b.0 b.1 b.2 (sym (eqb-true _ _ w) ∙ e) in
      (from.0, from.1, to.0, to.1)

  -- chords on two polygons don't cross
  pub on_two_polygons : (i j : ℕ) → i < length cs → j < length cs → is_within page cs i ≡ true → is_within page cs j ≡ true
      → polygon_at page (entered_side (crossing_at cs i)) ≢ polygon_at page (entered_side (crossing_at cs j))
      → crosses (path_chord page cs i) (path_chord page cs j) ≡ false
  on_two_polygons i j li lj wi wj ne =
      let a : ℕ = polygon_at page (entered_side (crossing_at cs i)) in
      let b : ℕ = polygon_at page (entered_side (crossing_at cs j)) in
      let x = ends_in_range i li wi a refl in
      let y = ends_in_range j lj wj b refl in
      elim (cases_lt a b) [
        | inl l ↦
            let m = base_more (λ t. label_points cs t.label + 2) (side_labels_of [] page) (suc a) b (omega arith) in
            apart_below (path_chord page cs i) (path_chord page cs j) (omega (arith, x, y, m)) (omega (arith, x, y, m)) (omega (arith, x, y, m)) (omega (arith, x, y, m))
        | inr l ↦
            let m = base_more (λ t. label_points cs t.label + 2) (side_labels_of [] page) (suc b) a (omega (arith, ne)) in
            apart_above (path_chord page cs i) (path_chord page cs j) (omega (arith, x, y, m)) (omega (arith, x, y, m)) (omega (arith, x, y, m)) (omega (arith, x, y, m))
      ]
