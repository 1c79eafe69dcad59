-- The rules of a certificate's pivot lines, its rank line and its verdict line.
use Rattle.std.specs.Prelude.{ℕ, suc, ◌-◌, Bool, true, nat_lt, nat_le, ◌&&◌, List, [], ◌∷◌, length}
use Rattle.std.specs.List.{list_all}
use Rattle.obd_base.specs.Lists.{has}
use Rattle.mod2_rank.specs.PivotRules.{Reducer, reduced_by, reducers}
use Rattle.mod2_rank.specs.declared.outcome.Pivot.{Pivot}
use Rattle.mod2_rank.specs.declared.outcome.Verdict.{Verdict}
use Rattle.mod2_rank.specs.declared.outcome.Verdict.TheVariants.{Chain, Functional}
use Rattle.mod2_rank.specs.Linear.{sum_of, column_at, columns_at, same_list, is_empty, meets_evenly}

-- column and row are in range, the column is above that of the pivot before, and the reduced column has the row
abbrev pub pivot_line_passes : ℕ → List (List ℕ) → ℕ → List Reducer → Pivot → Bool
pivot_line_passes rows cs low done l =
    nat_le low l.column && (nat_lt l.column (length cs) && (nat_lt l.row rows && has (reduced_by rows done (column_at cs l.column)) l.row))

-- the least column that may stand after some pivots
abbrev pub next_column : ℕ → List Pivot → ℕ
next_column low [] = low
next_column low (l ∷ ls) = next_column (suc l.column) ls

-- every column reduces to nothing
abbrev pub rank_line_passes : ℕ → List (List ℕ) → List Pivot → Bool
rank_line_passes rows cs ls = list_all (λ c. is_empty (reduced_by rows (reducers rows cs [] ls) c)) cs

-- the numbers ascend between the bounds
abbrev pub ascend_between : ℕ → ℕ → List ℕ → Bool
ascend_between low high [] = true
ascend_between low high (x ∷ xs) = nat_le low x && (nat_lt x high && ascend_between (suc x) high xs)

abbrev pub verdict_line_passes : ℕ → List (List ℕ) → Verdict → Bool
verdict_line_passes rows cs (Chain js) = ascend_between 0 (length cs) js && same_list (sum_of rows (columns_at cs js)) ((rows - 1) ∷ [])
verdict_line_passes rows cs (Functional f) = ascend_between 0 rows f && (has f (rows - 1) && list_all (meets_evenly f) cs)
