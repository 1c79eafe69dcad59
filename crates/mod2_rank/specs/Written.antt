-- The written chain and functional from the pivots: what one walk over them makes.
use Rattle.std.specs.Prelude.{ℕ, zero, suc, ◌-◌, Bool, cond, nat_eq, List, [], ◌∷◌, ◌++◌, length, slice_index_or, Option, Some, None, count_by}
use Rattle.obd_base.specs.Lists.{has, is_odd}
use Rattle.mod2_rank.specs.Reduction.{entry_of, list_of}
use Rattle.mod2_rank.specs.Rows.{Rows, none, odd_times, only, plus}
use Rattle.mod2_rank.specs.declared.outcome.Verdict.{Verdict}
use Rattle.mod2_rank.specs.declared.outcome.Verdict.TheVariants.{Chain, Functional}

-- the pivots whose columns make the sum of the reduced columns x of the first n pivots, where `added l` are the pivots whose reduced columns went into number l
abbrev pub expand : (ℕ → Rows) → ℕ → Rows → Rows
expand added zero x = none
expand added (suc n) x = cond (x n) (plus (expand added n (plus x (added n))) (only n)) (expand added n x)

-- the numbers of the columns of a set of pivots
abbrev pub chosen : (ℕ → ℕ) → Rows → ℕ → List ℕ
chosen c y zero = []
chosen c y (suc n) = chosen c y n ++ cond (y n) (c n ∷ []) []

-- whether the functional has row r, by the rows above: at a pivot row the reduced column decides, else only the contact row t is in
abbrev pub decides : (ℕ → Option ℕ) → (ℕ → List ℕ) → ℕ → Rows → ℕ → Bool
decides table reduced t f r = at (table r)
  where
    at : Option ℕ → Bool
    at (Some l) = is_odd (count_by f (reduced l))
    at None = nat_eq r t

-- the functional on the k rows from r on
abbrev pub filled : (ℕ → Option ℕ) → (ℕ → List ℕ) → ℕ → ℕ → ℕ → List ℕ
filled table reduced t r zero = []
filled table reduced t r (suc k) = let f = filled table reduced t (suc r) k in cond (decides table reduced t (has f) r) (r ∷ f) f

-- the chain of a pivot, from the columns of so many pivots and the pivots that were added to each
abbrev pub chain_of : ℕ → List ℕ → List (List ℕ) → ℕ → List ℕ
chain_of count columns added pivot = chosen (λ l. slice_index_or columns l 0) (expand (λ l. odd_times (list_of added l)) count (only pivot)) count

-- the functional, from the reduced columns and the table of pivots
abbrev pub functional_of : List (List ℕ) → List (Option ℕ) → List ℕ
functional_of reduced table = filled (entry_of table) (list_of reduced) (length table - 1) 0 (length table)

-- the verdict where the contact row has this pivot: its chain, or the functional where it has none
abbrev pub verdict_at : List ℕ → List (List ℕ) → List (List ℕ) → List (Option ℕ) → Option ℕ → Verdict
verdict_at columns reduced added table (Some pivot) = Chain (chain_of (length columns) columns added pivot)
verdict_at columns reduced added table None = Functional (functional_of reduced table)

-- the verdict on the contact row, which is the last
abbrev pub verdict_of : List ℕ → List (List ℕ) → List (List ℕ) → List (Option ℕ) → Verdict
verdict_of columns reduced added table = verdict_at columns reduced added table (entry_of table (length table - 1))
