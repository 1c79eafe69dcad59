-- The rules of the verdict line say a chain, or a functional, and the kind is that of the elimination.
use Rattle.std.proofs.Common.{◌≡◌, ℕ, suc, ◌-◌, ◌<◌, Bool, true, false, ltb, leb, List, [], ◌∷◌, length, refl, sym, subst}
use Rattle.std.specs.Bool.{Decides}
use Rattle.std.proofs.lemmas.Bool.{and_parts, and_from, ltb-true, leb-true, lt-ltb, le-leb}
use Rattle.obd_base.specs.Lists.{has}
use Rattle.mod2_rank.specs.declared.outcome.Verdict.{Verdict}
use Rattle.mod2_rank.specs.declared.outcome.Verdict.TheVariants.{Chain, Functional}
use Rattle.mod2_rank.specs.Linear.{sum_of, columns_at, same_list, IsChain, IsFunctional, Ascends, IsVerdict}
use Rattle.mod2_rank.specs.Ascending.{AllAscend}
use Rattle.mod2_rank.specs.PivotLines.{ascend_between, verdict_line_passes}
use Rattle.mod2_rank.proofs.Members.{same_list_true, same_list_itself}
use Rattle.mod2_rank.proofs.FunctionalLaw.{never_both}

pub ascend_true : (xs : List ℕ) (low high : ℕ) → ascend_between low high xs ≡ true → Ascends low high xs
ascend_true [] low high h = tt
ascend_true (x ∷ xs) low high h =
    let (p, q) = and_parts (leb low x) _ h in
    let (r, s) = and_parts (ltb x high) _ q in
    (leb-true low x p, ltb-true x high r, ascend_true xs (suc x) high s)

pub true_ascend : (xs : List ℕ) (low high : ℕ) → Ascends low high xs → ascend_between low high xs ≡ true
true_ascend [] low high a = refl
true_ascend (x ∷ xs) low high a = and_from (leb low x) _ (le-leb low x a.0) (and_from (ltb x high) _ (lt-ltb x high a.1) (true_ascend xs (suc x) high a.2))

-- a `zero` line passes exactly where its numbers are a chain, written in ascending order
pub zero_line : (rows : ℕ) (cs : List (List ℕ)) (js : List ℕ) → Decides (verdict_line_passes rows cs (Chain js)) (Ascends 0 (length cs) js × IsChain rows cs js)
zero_line rows cs js = (
  λ h. let (p, q) = and_parts (ascend_between 0 (length cs) js) _ h in (ascend_true js 0 (length cs) p, same_list_true (sum_of rows (columns_at cs js)) ((rows - 1) ∷ []) q),
  λ h. and_from (ascend_between 0 (length cs) js) _ (true_ascend js 0 (length cs) h.0)
      (subst (λ w. same_list w ((rows - 1) ∷ []) ≡ true) (sym h.1) (same_list_itself ((rows - 1) ∷ []))),
)

-- a `nonzero` line passes exactly where its numbers are a functional
pub nonzero_line : (rows : ℕ) (cs : List (List ℕ)) (f : List ℕ) → Decides (verdict_line_passes rows cs (Functional f)) (Ascends 0 rows f × IsFunctional rows cs f)
nonzero_line rows cs f = (
  λ h.
      let (p, q) = and_parts (ascend_between 0 rows f) _ h in
      let (r, s) = and_parts (has f (rows - 1)) _ q in
      (ascend_true f 0 rows p, record { contact = r; even = s }),
  λ h. and_from (ascend_between 0 rows f) _ (true_ascend f 0 rows h.0) (and_from (has f (rows - 1)) _ h.1.contact h.1.even),
)

-- what the elimination finds passes
pub verdict_passes : (rows : ℕ) (cs : List (List ℕ)) (v : Verdict) → IsVerdict rows cs v → verdict_line_passes rows cs v ≡ true
verdict_passes rows cs (Chain js) v = (zero_line rows cs js).1 (v.ascends, v.chain)
verdict_passes rows cs (Functional f) v = (nonzero_line rows cs f).1 (v.ascends, v.functional)

-- the kind of the verdict
abbrev pub is_chain : Verdict → Bool
is_chain (Chain js) = true
is_chain (Functional f) = false

-- any line that passes has the kind of the written verdict
pub same_kind : (rows : ℕ) (cs : List (List ℕ)) (v w : Verdict) → 0 < rows → AllAscend rows cs → verdict_line_passes rows cs v ≡ true → IsVerdict rows cs w → is_chain v ≡ is_chain w
same_kind rows cs (Chain js) (Chain ks) l a h k = refl
same_kind rows cs (Functional f) (Functional g) l a h k = refl
same_kind rows cs (Chain js) (Functional f) l a h k = let z = (zero_line rows cs js).0 h in absurd (never_both rows cs js f l a z.0 z.1 k.functional)
same_kind rows cs (Functional f) (Chain js) l a h k = let z = (nonzero_line rows cs f).0 h in absurd (never_both rows cs js f l a k.ascends k.chain z.1)
