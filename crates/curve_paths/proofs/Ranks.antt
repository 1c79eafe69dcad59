-- The chords of a curve some of whose exits are left out: the chords round an exit that is left out become one.
use Rattle.std.proofs.Common.{◌≡◌, ℕ, suc, ◌<◌, Bool, true, false, cond, eqb, refl, sym, ap, ◌∙◌, inl, inr, arith}
use Rattle.std.specs.List.{count_by}
use Rattle.std.proofs.lemmas.Bool.{cases_eq, eq-eqb, ne_eqb}
use Rattle.obd_base.specs.Lists.{below}
use Rattle.obd_base.proofs.lists.Below.{bit, count_less, count_suc}
use Rattle.curve_paths.proofs.CurvePoints.{following}

next_zero : (n i : ℕ) → suc i ≡ n → following n i ≡ 0
next_zero n i e = rw (eq-eqb (suc i) n e) refl

next_suc : (n i : ℕ) → (suc i ≡ n → ⊥) → following n i ≡ suc i
next_suc n i k = rw (ne_eqb (suc i) n k) refl

module _ (kept : ℕ → Bool) (n : ℕ) where
  -- how many exits are kept before exit i
  abbrev pub rank : ℕ → ℕ
  rank i = count_by kept (below i)

  -- the chord that chord i becomes a part of: it ends at the next exit that is kept
  abbrev pub part_of : ℕ → ℕ
  part_of i = cond (eqb (rank i) (rank n)) 0 (rank i)

  pub rank_less : (i : ℕ) → i < n → kept i ≡ true → rank i < rank n
  rank_less i l t = count_less kept i n t l

  pub part_kept : (i : ℕ) → i < n → kept i ≡ true → part_of i ≡ rank i
  part_kept i l t = rw (ne_eqb (rank i) (rank n) (λ e. let h = rank_less i l t in omega (arith, e, h))) refl

  part_zero : part_of 0 ≡ 0
  part_zero = elim (cases_eq (rank 0) (rank n)) [ inl e ↦ rw (eq-eqb _ _ e) refl | inr k ↦ rw (ne_eqb _ _ k) refl ]

  -- the chord after an exit that is kept
  pub part_after : (i : ℕ) → i < n → kept i ≡ true → part_of (following n i) ≡ following (rank n) (rank i)
  part_after i l t = elim (cases_eq (suc i) n) [
    | inl e ↦
        let s : suc (rank i) ≡ rank n = omega (arith, count_suc kept i, ap bit t, ap (λ k. rank k) e) in
        ap part_of (next_zero n i e) ∙ (part_zero ∙ sym (next_zero (rank n) (rank i) s))
    | inr k ↦
        let s : rank (suc i) ≡ suc (rank i) = omega (arith, count_suc kept i, ap bit t) in
        ap part_of (next_suc n i k) ∙ ap (λ r. cond (eqb r (rank n)) 0 r) s
  ]

  -- the chords before and after an exit that is left out are parts of one
  pub part_over : (i : ℕ) → i < n → kept i ≡ false → part_of (following n i) ≡ part_of i
  part_over i l f = elim (cases_eq (suc i) n) [
    | inl e ↦
        let s : rank i ≡ rank n = omega (arith, count_suc kept i, ap bit f, ap (λ k. rank k) e) in
        ap part_of (next_zero n i e) ∙ (part_zero ∙ sym (ap (λ b. cond b 0 (rank i)) (eq-eqb (rank i) (rank n) s)))
    | inr k ↦
        let s : rank (suc i) ≡ rank i = omega (arith, count_suc kept i, ap bit f) in
        ap part_of (next_suc n i k) ∙ ap (λ r. cond (eqb r (rank n)) 0 r) s
  ]
