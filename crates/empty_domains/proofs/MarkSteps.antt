-- Marking pieces and taking marks away, one after the other.
use Rattle.std.proofs.Common.{◌≡◌, ℕ, suc, ◌+◌, ◌<◌, ◌⊎◌, inl, inr, Bool, true, false, eqb, ◌||◌, List, [], ◌∷◌, ◌++◌, append_assoc, get_or, length, map, set, take, refl, sym, ap, subst, ◌∙◌}
use Rattle.std.specs.List.{flat_map}
use Rattle.std.proofs.Math.Seq.{take-suc}
use Rattle.std.proofs.lemmas.Bool.{cases_eq, eq-eqb, ne_eqb}
use Rattle.std.proofs.lemmas.List.{flat_map_more, get_or-set_other, get_or-set_same}
use Rattle.std.proofs.lemmas.List.Folds.{list_any-append}
use Rattle.empty_domains.proofs.Collected.{collected_new, collected_old}
use Rattle.empty_domains.proofs.Loops.{span_push}
use Rattle.empty_domains.specs.Marks.{AreMarked}
use Rattle.obd_base.proofs.lists.Members.{mem_append}
use Rattle.obd_base.specs.Lists.{Mem, below, has}

-- a list with one member more
has_more : (xs : List ℕ) (p z : ℕ) → has (xs ++ p ∷ []) z ≡ (has xs z || (eqb z p || false))
has_more xs p z = list_any-append (eqb z) xs (p ∷ [])

module _ (table spans pieces : List ℕ) (marks : List Bool) (q : ℕ) (is : AreMarked table spans pieces marks) where
  -- a span whose piece is marked adds nothing
  pub marked_old : get_or marks (get_or table q 0) false ≡ true → AreMarked table (spans ++ q ∷ []) pieces marks
  marked_old h = record {
    collected = collected_old table spans pieces q is.collected (sym (is.marked (get_or table q 0)) ∙ h);
    marked = is.marked;
  }

  -- one whose piece isn't adds the piece and its mark
  pub marked_new : get_or marks (get_or table q 0) false ≡ false → get_or table q 0 < length marks
      → AreMarked table (spans ++ q ∷ []) (pieces ++ get_or table q 0 ∷ []) (set marks (get_or table q 0) true)
  marked_new h l = record {
    collected = collected_new table spans pieces q is.collected (sym (is.marked (get_or table q 0)) ∙ h);
    marked = λ z. elim (cases_eq z p) [
      | inl e ↦ (
          let a : get_or (set marks p true) z false ≡ true = ap (λ w. get_or (set marks p true) w false) e ∙ get_or-set_same marks p true false l in
          a ∙ sym (has_more pieces p z ∙ last (has pieces z) (eqb z p) (eq-eqb z p e)))
      | inr n ↦ get_or-set_other marks p z true false n ∙ (is.marked z ∙ sym (has_more pieces p z ∙ first (has pieces z) (eqb z p) (ne_eqb z p n)))
    ];
  }
    where
      p : ℕ
      p = get_or table q 0

      last : (a b : Bool) → b ≡ true → (a || (b || false)) ≡ true
      last true b e = refl
      last false b e = rw e refl

      first : (a b : Bool) → b ≡ false → (a || (b || false)) ≡ a
      first true b e = refl
      first false b e = rw e refl

-- the spans of a row, one more
pub row_more : (spans : List ℕ) (start k n : ℕ) → n ≡ suc k → spans ++ map (λ i. suc (start + i)) (below n) ≡ (spans ++ map (λ i. suc (start + i)) (below k)) ++ suc (start + k) ∷ []
row_more spans start k n e =
    ap (λ m. spans ++ map (λ i. suc (start + i)) (below m)) e
    ∙ (ap (λ (zs : List ℕ). spans ++ zs) (span_push start k) ∙ sym (append_assoc spans (map (λ i. suc (start + i)) (below k)) (suc (start + k) ∷ [])))

-- no mark is left at a number, and none comes elsewhere
pub mark_off : (marks : List Bool) (p z : ℕ) → p < length marks → (z ≡ p) ⊎ (get_or marks z false ≡ false) → get_or (set marks p false) z false ≡ false
mark_off marks p z l h = elim (cases_eq z p) [
  | inl e ↦ ap (λ w. get_or (set marks p false) w false) e ∙ get_or-set_same marks p false false l
  | inr n ↦ elim h [ inl e ↦ absurd (n e) | inr f ↦ get_or-set_other marks p z false false n ∙ f ]
]

-- a member of one entry more is that entry or one of the earlier ones
pub take_cases : (xs : List ℕ) (k n z : ℕ) → n ≡ suc k → k < length xs → Mem z (take n xs) → (z ≡ get_or xs k 0) ⊎ Mem z (take k xs)
take_cases xs k n z e l m =
    elim (mem_append z (take k xs) (get_or xs k 0 ∷ []) (subst (λ zs. Mem z zs) (ap (λ i. take i xs) e ∙ take-suc xs k 0 l) m)) [
      | inl w ↦ inr w
      | inr w ↦ elim w [ inl q ↦ inl q | inr q ↦ absurd q ]
    ]

-- a column of a row whose piece isn't marked yet
pub column_new : (table spans before after : List ℕ) (marks marks_after : List Bool) (start k n at p : ℕ) → n ≡ suc k → at ≡ suc (start + k) → p ≡ get_or table at 0
    → AreMarked table (spans ++ map (λ i. suc (start + i)) (below k)) before marks → get_or marks p false ≡ false → p < length marks → after ≡ before ++ p ∷ [] → marks_after ≡ set marks p true
    → AreMarked table (spans ++ map (λ i. suc (start + i)) (below n)) after marks_after
column_new table spans before after marks marks_after start k n at p e a pe is fresh l grown set_is =
    let q = suc (start + k) in
    let here : get_or table q 0 ≡ p = ap (λ z. get_or table z 0) (sym a) ∙ sym pe in
    let m = marked_new table (spans ++ map (λ i. suc (start + i)) (below k)) before marks q is (ap (λ z. get_or marks z false) here ∙ fresh) (subst (λ z. z < length marks) (sym here) l) in
    rw (row_more spans start k n e, grown, set_is, sym here) m

-- and one whose piece is
pub column_old : (table spans before after : List ℕ) (marks marks_after : List Bool) (start k n at p : ℕ) → n ≡ suc k → at ≡ suc (start + k) → p ≡ get_or table at 0
    → AreMarked table (spans ++ map (λ i. suc (start + i)) (below k)) before marks → get_or marks p false ≡ true → after ≡ before → marks_after ≡ marks
    → AreMarked table (spans ++ map (λ i. suc (start + i)) (below n)) after marks_after
column_old table spans before after marks marks_after start k n at p e a pe is old same marks_same =
    let q = suc (start + k) in
    let here : get_or table q 0 ≡ p = ap (λ z. get_or table z 0) (sym a) ∙ sym pe in
    let m = marked_old table (spans ++ map (λ i. suc (start + i)) (below k)) before marks q is (ap (λ z. get_or marks z false) here ∙ old) in
    rw (row_more spans start k n e, same, marks_same) m

-- the spans of some rows, one row more
pub rows_more : (f : ℕ → List ℕ) (spans xs : List ℕ) (k n : ℕ) → n ≡ suc k → k < length xs → spans ++ flat_map f (take n xs) ≡ (spans ++ flat_map f (take k xs)) ++ f (get_or xs k 0)
rows_more f spans xs k n e l = ap (λ i. spans ++ flat_map f (take i xs)) e ∙ (ap (λ zs. spans ++ flat_map f zs) (take-suc xs k 0 l) ∙ sym (flat_map_more f spans (take k xs) (get_or xs k 0)))
