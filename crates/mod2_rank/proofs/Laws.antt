-- The laws of columns modulo two. They stand over the definitions alone, for columns that ascend below the number of rows.
use Rattle.std.specs.Prelude.{◌↔◌}
use Rattle.std.proofs.Common.{◌≡◌, ℕ, ◌+◌, ◌<◌, ◌≤◌, true, false, not, List, length, filter, refl, arith, ◌⊎◌, inl, inr}
use Rattle.std.proofs.lemmas.List.Filters.{length-filter_both}
use Rattle.std.proofs.lemmas.List.FromFn.{length-range_with_len}
use Rattle.obd_base.specs.Lists.{below}
use Rattle.std.proofs.lemmas.Bool.{cases_Bool}
use Rattle.mod2_rank.specs.Ascending.{AllAscend}
use Rattle.mod2_rank.specs.Linear.{Ascends, IsChain, IsFunctional, IsOutcome, IsRank, IsWrittenChain, IsWrittenFunctional, contact_row, is_pivot, is_pivot_row, pivots}
use Rattle.mod2_rank.specs.PivotRules.{MeetRules}
use Rattle.mod2_rank.specs.declared.outcome.Pivot.{Pivot}
use Rattle.mod2_rank.specs.declared.outcome.Verdict.{Verdict}
use Rattle.mod2_rank.proofs.ChainLaw as C
use Rattle.mod2_rank.proofs.Eliminated as E
use Rattle.mod2_rank.proofs.FunctionalLaw as F
use Rattle.mod2_rank.proofs.Parts as P
use Rattle.mod2_rank.proofs.PivotColumns as V
use Rattle.mod2_rank.proofs.RuledPivots as R

-- some columns have the contact row alone as sum
abbrev pub HasChain : ℕ → List (List ℕ) → Type 0
HasChain rows cs = (js : List ℕ) × Ascends 0 (length cs) js × IsChain rows cs js

-- some rows are a functional
abbrev pub HasFunctional : ℕ → List (List ℕ) → Type 0
HasFunctional rows cs = (f : List ℕ) × IsFunctional rows cs f

module _ (rows : ℕ) (cs : List (List ℕ)) (ok : AllAscend rows cs) where
  -- the number of pivot columns is a rank,
  pub has_rank : IsRank rows cs (length (pivots rows cs))
  has_rank = V.rank_of_pivots rows cs ok

  -- there is one rank alone,
  pub one_rank : (r q : ℕ) → IsRank rows cs r → IsRank rows cs q → r ≡ q
  one_rank r q h k = P.rank_unique rows cs r q ok h k

  -- so the pivot columns are as many as the rank
  pub pivots_are_rank : (r : ℕ) → IsRank rows cs r → length (pivots rows cs) ≡ r
  pivots_are_rank r h = V.pivots_are_rank rows cs r ok h

  -- and at most as many as the columns
  pub rank_at_most : (r : ℕ) → IsRank rows cs r → r ≤ length cs
  rank_at_most r h =
      let both : length (filter (is_pivot rows cs) (below (length cs))) + length (filter (λ j. not (is_pivot rows cs j)) (below (length cs))) ≡ length (below (length cs)) =
      length-filter_both (is_pivot rows cs) (λ j. not (is_pivot rows cs j)) (λ j. refl) (below (length cs)) in
      let all : length (below (length cs)) ≡ length cs = length-range_with_len 0 (length cs) in
      omega (arith, pivots_are_rank r h, both, all)

  -- pivots that meet the rules are as many as the rank
  pub ruled_pivots_are_rank : (ps : List Pivot) (r : ℕ) → MeetRules rows cs ps → IsRank rows cs r → length ps ≡ r
  ruled_pivots_are_rank ps r rules h = R.ruled_pivots_are_rank rows cs ok ps r rules h

  -- the written chain is one
  pub one_chain : (js ks : List ℕ) → IsWrittenChain rows cs js → IsWrittenChain rows cs ks → js ≡ ks
  one_chain js ks h k = C.unique_chain rows cs js ks ok h k

  -- the written functional is one
  pub one_functional : (f g : List ℕ) → IsWrittenFunctional rows cs f → IsWrittenFunctional rows cs g → f ≡ g
  one_functional f g h k = F.unique_functional rows cs f g ok h k

  module _ (some : 0 < rows) where
    -- never do a chain and a functional both exist
    pub never_both : HasChain rows cs → HasFunctional rows cs → ⊥
    never_both (js, ascends, chain) (f, functional) = F.never_both rows cs js f some ok ascends chain functional

    -- a written chain exists where the contact row is a pivot row,
    pub written_chain : is_pivot_row rows cs (contact_row rows) ≡ true → (js : List ℕ) × IsWrittenChain rows cs js
    written_chain h = E.chain_where_pivot rows cs some ok h

    -- and a written functional elsewhere
    pub written_functional : is_pivot_row rows cs (contact_row rows) ≡ false → (f : List ℕ) × IsWrittenFunctional rows cs f
    written_functional h = E.functional_where_none rows cs some ok h

    -- so a chain exists exactly where the contact row is a pivot row,
    pub chain_exactly : HasChain rows cs ↔ (is_pivot_row rows cs (contact_row rows) ≡ true)
    chain_exactly = (
      λ h. elim (cases_Bool (is_pivot_row rows cs (contact_row rows))) [
        | inl e ↦ e
        | inr e ↦ let (f, k) = written_functional e in absurd (never_both h (f, k.functional))
      ],
      λ e. let (js, h) = written_chain e in (js, h.ascends, h.chain),
    )

    -- a functional exactly where it is none,
    pub functional_exactly : HasFunctional rows cs ↔ (is_pivot_row rows cs (contact_row rows) ≡ false)
    functional_exactly = (
      λ h. elim (cases_Bool (is_pivot_row rows cs (contact_row rows))) [
        | inl e ↦ let (js, k) = written_chain e in absurd (never_both (js, k.ascends, k.chain) h)
        | inr e ↦ e
      ],
      λ e. let (f, h) = written_functional e in (f, h.functional),
    )

    -- and one of the two exists
    pub always_one : HasChain rows cs ⊎ HasFunctional rows cs
    always_one = elim (cases_Bool (is_pivot_row rows cs (contact_row rows))) [
      | inl e ↦ inl (chain_exactly.1 e)
      | inr e ↦ inr (functional_exactly.1 e)
    ]

    -- the outcome is one
    pub one_outcome : (c d r q : List ℕ) (v w : Verdict) → IsOutcome rows cs c r v → IsOutcome rows cs d q w → (c ≡ d) × (r ≡ q) × (v ≡ w)
    one_outcome c d r q v w h k = E.one_outcome rows cs c d r q v w some ok h k
