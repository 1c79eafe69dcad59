-- One step of joining: the polygon of a label's second side is set in place of its first side.
use Rattle.std.proofs.Common.{◌≡◌, ℕ, zero, suc, ◌+◌, ◌<◌, ◌≤◌, Bool, true, false, cond, ◌&&◌, not, List, [], ◌∷◌, ◌++◌, map, length, get_or, set, refl, sym, ap, subst, ◌∙◌, ◌⊎◌, inl, inr, ◌≢◌, arith, append-nil, append_assoc}
use Rattle.std.specs.List.{after_first, before_first, count_by, filter, flat_map, list_any, position_or_len, remove, sum_by}
use Rattle.std.proofs.lemmas.Bool.{cases_Bool, cases_eq, false≢true, and_parts}
use Rattle.std.proofs.lemmas.List.{get_or-set_other, get_or-set_same, length-set}
use Rattle.std.proofs.lemmas.List.Sums.{split_at_first, sum_by-append, sum_by-cons, sum_by-set}
use Rattle.obd_base.specs.Lists.{Mem}
use Rattle.obd_base.proofs.lists.Below.{bit}
use Rattle.obd_base.proofs.lists.Sums.{sum_flat, sum_least}
use Rattle.page_surface.specs.declared.page.SideLabel.{SideLabel}
use Rattle.page_surface.specs.Joining.{has_side, is_side, is_split, joined_along, put_in_place, round_after, side}
use Rattle.page_surface.proofs.LabelNumbers.{first_below}
use Rattle.arc_basis.proofs.LabelCounts.{stands}
use Rattle.arc_basis.proofs.Places.{any_counted}
use Rattle.arc_basis.proofs.Rows.{same_side, sides_of}
use Rattle.arc_basis.proofs.OneItem.{at_removed, count_yes, counted, index_of, map_removed, mem_removed, mem_set, one_changed, one_in, one_out, one_there, only_one, sum_removed}

-- the second polygon of a label, b1 s' b2, set in place of its side s in the first, a1 s a2
pub record Joint (label : ℕ) (before after : List (List SideLabel)) : Type 0 where
  pub a1 : List SideLabel
  pub a2 : List SideLabel
  pub b1 : List SideLabel
  pub b2 : List SideLabel
  pub first_in : Mem (a1 ++ (side label 0 ∷ a2)) before
  pub second_in : Mem (b1 ++ (side label 1 ∷ b2)) before
  pub joined_in : Mem (a1 ++ ((b2 ++ b1) ++ a2)) after
  pub from_before : (p : List SideLabel) → Mem p before → (p ≡ a1 ++ (side label 0 ∷ a2)) ⊎ ((p ≡ b1 ++ (side label 1 ∷ b2)) ⊎ Mem p after)
  pub from_after : (p : List SideLabel) → Mem p after → (p ≡ a1 ++ ((b2 ++ b1) ++ a2)) ⊎ Mem p before
  pub sums : (f : List SideLabel → ℕ) → sum_by f after + (f (a1 ++ (side label 0 ∷ a2)) + f (b1 ++ (side label 1 ∷ b2))) ≡ sum_by f before + f (a1 ++ ((b2 ++ b1) ++ a2))

-- a test that a polygon passes in place of its sides
bit_counted : (s : SideLabel) (p : List SideLabel) → bit (has_side s p) ≤ count_by (is_side s) p
bit_counted s p = elim (cases_Bool (has_side s p)) [
  | inl t ↦ rw t (some p t)
  | inr f ↦ rw f (omega arith)
]
  where
    some : (p : List SideLabel) → has_side s p ≡ true → 1 ≤ count_by (is_side s) p
    some [] h = absurd (false≢true h)
    some (x ∷ p) h = elim (cases_Bool (is_side s x)) [
      | inl t ↦ (let c = count_yes (is_side s) x p t in omega (arith, c))
      | inr f ↦ (let c = sum_by-cons (λ y. bit (is_side s y)) x p in let r = some p (rw f at h) in omega (arith, c, r))
    ]

-- how often a side stands on all polygons, by polygons
pub stands_by : (label occurrence : ℕ) (polygons : List (List SideLabel))
    → stands label occurrence (sides_of polygons) ≡ sum_by (λ p. stands label occurrence p) polygons
stands_by label occurrence polygons = sum_flat (λ s. bit (is_side (side label occurrence) s)) (λ (p : List SideLabel). p) polygons

-- of some polygons on which a side stands at most once, at most one has it
pub few_have : (s : SideLabel) (polygons : List (List SideLabel)) → count_by (has_side s) polygons ≤ stands s.label s.occurrence (sides_of polygons)
few_have s polygons =
    let least = sum_least (λ p. bit (has_side s p)) (λ p. count_by (is_side s) p) polygons (λ p m. bit_counted s p) in
    omega (arith, least, stands_by s.label s.occurrence polygons)

-- a polygon that has a side, cut there
pub cut_at : (s : SideLabel) (p : List SideLabel) → has_side s p ≡ true → p ≡ before_first (is_side s) p ++ (s ∷ after_first (is_side s) p)
cut_at s p h =
    let l : position_or_len (is_side s) p < length p = first_below (is_side s) p h in
    let e : s ≡ get_or p (position_or_len (is_side s) p) s = same_side s _ (passes (is_side s) p s h) in
    split_at_first (is_side s) p s l ∙ ap (λ x. before_first (is_side s) p ++ (x ∷ after_first (is_side s) p)) (sym e)
  where
    passes : (q : SideLabel → Bool) (xs : List SideLabel) (d : SideLabel) → list_any q xs ≡ true → q (get_or xs (position_or_len q xs) d) ≡ true
    passes q [] d h = absurd (false≢true h)
    passes q (x ∷ xs) d h = elim (cases_Bool (q x)) [
      | inl t ↦ rw t t
      | inr f ↦ (let e : position_or_len q (x ∷ xs) ≡ suc (position_or_len q xs) = rw f (omega arith) in ap (λ i. q (get_or (x ∷ xs) i d)) e ∙ passes q xs d (rw f at h))
    ]

module _ (label : ℕ) (before : List (List SideLabel)) (split : is_split label before ≡ true)
    (first_once : stands label 0 (sides_of before) ≡ 1) (second_once : stands label 1 (sides_of before) ≡ 1) where
  abbrev has0 : List SideLabel → Bool
  has0 = has_side (side label 0)

  abbrev has1 : List SideLabel → Bool
  has1 = has_side (side label 1)

  -- which polygons have the two sides
  abbrev pub first_at : ℕ
  first_at = position_or_len (has_side (side label 0)) before

  abbrev pub second_at : ℕ
  second_at = position_or_len (has_side (side label 1)) before

  abbrev pub first : List SideLabel
  first = get_or before first_at []

  abbrev pub second : List SideLabel
  second = get_or before second_at []

  -- the polygon that they become
  abbrev pub both : List SideLabel
  both = put_in_place (side label 0) (round_after (side label 1) second) first

  -- some polygon has the first side and not the second
  split_there : (polygons : List (List SideLabel)) → list_any (λ p. has0 p && not (has1 p)) polygons ≡ true
      → (p : List SideLabel) × Mem p polygons × (has0 p ≡ true) × (has1 p ≡ false)
  split_there [] h = absurd (false≢true h)
  split_there (p ∷ polygons) h = elim (cases_Bool (has0 p && not (has1 p))) [
    | inl t ↦ (let r = and_parts (has0 p) (not (has1 p)) t in (p, inl refl, r.0, opposite (has1 p) r.1))
    | inr f ↦ (let (q, m, a, b) = split_there polygons (rw f at h) in (q, inr m, a, b))
  ]
    where
      opposite : (b : Bool) → not b ≡ true → b ≡ false
      opposite false h = refl
      opposite true h = absurd (false≢true h)

  one_first : count_by has0 before ≡ 1
  one_first = let (p, m, a, b) = split_there before split in let l = counted has0 p before m a in omega (arith, l, few_have (side label 0) before, first_once)

  second_there : (polygons : List (List SideLabel)) → 1 ≤ stands label 1 (sides_of polygons) → 1 ≤ count_by has1 polygons
  second_there [] l = absurd (omega arith)
  second_there (p ∷ polygons) l = elim (cases_Bool (has1 p)) [
    | inl t ↦ (let c = count_yes has1 p polygons t in omega (arith, c))
    | inr f ↦
        let c = sum_by-cons (λ y. bit (has1 y)) p polygons in
        let none : stands label 1 p ≡ 0 = zero_there p f in
        let e = sum_by-append (λ s. bit (is_side (side label 1) s)) p (sides_of polygons) in
        let r = second_there polygons (omega (arith, l, e, none)) in omega (arith, c, r)
  ]
    where
      zero_there : (p : List SideLabel) → has1 p ≡ false → stands label 1 p ≡ 0
      zero_there p f = elim (cases_eq (stands label 1 p) 0) [
        | inl e ↦ e
        | inr n ↦ absurd (false≢true (sym f ∙ any_counted (is_side (side label 1)) p (omega (arith, n))))
      ]

  one_second : count_by has1 before ≡ 1
  one_second = omega (arith, few_have (side label 1) before, second_once, second_there before (omega (arith, second_once)))

  first_there : (first_at < length before) × (has0 first ≡ true)
  first_there = one_there has0 before [] one_first

  second_stands : (second_at < length before) × (has1 second ≡ true)
  second_stands = one_there has1 before [] one_second

  -- they are two polygons
  pub apart : first_at ≢ second_at
  apart e =
      let (p, m, a, b) = split_there before split in
      let (i, l, q) = index_of p before [] m in
      let at : i ≡ first_at = only_one has0 before [] i one_first l (ap has0 q ∙ a) in
      false≢true (sym b ∙ (ap has1 (sym q ∙ ap (λ k. get_or before k []) (at ∙ e)) ∙ second_stands.1))

  -- what joining makes of them, polygon by polygon: the first is changed, and the second goes away
  pub step_is : joined_along label before ≡ remove (set before first_at both) second_at
  step_is =
      let ins : flat_map (round_after (side label 1)) (filter has1 before) ≡ round_after (side label 1) second
      = ap (flat_map (round_after (side label 1))) (one_in has1 before [] one_second) ∙ append-nil (round_after (side label 1) second) in
      ap (λ w. map (λ p. cond (has0 p) (put_in_place (side label 0) w p) p) (filter (λ p. not (has1 p)) before)) ins
      ∙ (ap (map (λ p. cond (has0 p) (put_in_place (side label 0) (round_after (side label 1) second) p) p)) (one_out has1 before one_second)
      ∙ (map_removed (λ p. cond (has0 p) (put_in_place (side label 0) (round_after (side label 1) second) p) p) before second_at
      ∙ ap (λ ps. remove ps second_at) (one_changed has0 (put_in_place (side label 0) (round_after (side label 1) second)) before [] one_first)))

  abbrev after : List (List SideLabel)
  after = remove (set before first_at both) second_at

  -- one step
  pub joint : Joint label before (joined_along label before)
  joint = subst (λ ps. Joint label before ps) (sym step_is) (record {
    a1 = before_first (is_side (side label 0)) first;
    a2 = after_first (is_side (side label 0)) first;
    b1 = before_first (is_side (side label 1)) second;
    b2 = after_first (is_side (side label 1)) second;
    first_in = subst (λ p. Mem p before) first_cut (member before first_at first_there.0);
    second_in = subst (λ p. Mem p before) second_cut (member before second_at second_stands.0);
    joined_in = subst (λ p. Mem p after) (get_or-set_same before first_at both [] first_there.0 ∙ both_is)
        (at_removed (set before first_at both) second_at first_at [] (omega (arith, size, first_there.0)) apart);
    from_before = λ p m.
        let (i, l, q) = index_of p before [] m in
        elim (cases_eq i first_at) [
          | inl e ↦ inl (sym q ∙ (ap (λ k. get_or before k []) e ∙ first_cut))
          | inr n ↦ elim (cases_eq i second_at) [
            | inl e ↦ inr (inl (sym q ∙ (ap (λ k. get_or before k []) e ∙ second_cut)))
            | inr k ↦ inr (inr (subst (λ r. Mem r after) (get_or-set_other before first_at i both [] n ∙ q)
                (at_removed (set before first_at both) second_at i [] (omega (arith, size, l)) k)))
          ]
        ];
    from_after = λ p m. elim (mem_set p before first_at both (mem_removed p (set before first_at both) second_at m)) [ inl e ↦ inl (e ∙ both_is) | inr k ↦ inr k ];
    sums = λ f.
        let r = sum_removed f (set before first_at both) second_at [] (omega (arith, size, second_stands.0)) in
        let s = sum_by-set f before first_at both [] first_there.0 in
        let t = ap f (get_or-set_other before first_at second_at both [] (λ e. apart (sym e))) in
        omega (arith, r, s, t, ap f first_cut, ap f second_cut, ap f both_is);
  })
    where
      both_is : both ≡ before_first (is_side (side label 0)) first ++ ((after_first (is_side (side label 1)) second ++ before_first (is_side (side label 1)) second) ++ after_first (is_side (side label 0)) first)
      both_is = append_assoc (before_first (is_side (side label 0)) first) (round_after (side label 1) second) (after_first (is_side (side label 0)) first)

      size : length (set before first_at both) ≡ length before
      size = length-set before first_at both

      first_cut : first ≡ before_first (is_side (side label 0)) first ++ (side label 0 ∷ after_first (is_side (side label 0)) first)
      first_cut = cut_at (side label 0) first first_there.1

      second_cut : second ≡ before_first (is_side (side label 1)) second ++ (side label 1 ∷ after_first (is_side (side label 1)) second)
      second_cut = cut_at (side label 1) second second_stands.1

      member : (ps : List (List SideLabel)) (i : ℕ) → i < length ps → Mem (get_or ps i []) ps
      member [] i l = absurd (omega arith)
      member (p ∷ ps) zero l = inl refl
      member (p ∷ ps) (suc i) l = inr (member ps i (omega arith))
