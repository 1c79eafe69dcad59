-- Given pivots as far as they pass, and their reducers with the table that tells which of them a row calls for.
use Rattle.std.specs.Prelude.{◌≡◌, ℕ, zero, suc, ◌<◌, Bool, true, false, List, [], ◌∷◌, length, map, slice_index_or, take, Option, Some, None}
use Rattle.obd_base.specs.Lists.{has}
use Rattle.mod2_rank.specs.Linear.{Ascends}
use Rattle.mod2_rank.specs.PivotLines.{next_column, pivot_line_passes}
use Rattle.mod2_rank.specs.PivotRules.{Reducer, reducers}
use Rattle.mod2_rank.specs.Reduction.{entry_of}
use Rattle.mod2_rank.specs.Rows.{IsLeast, Rows, none, only}
use Rattle.mod2_rank.specs.declared.outcome.Pivot.{Pivot}

-- a pivot in place k passes after those before it
abbrev pub passes_at : ℕ → List (List ℕ) → List Pivot → ℕ → Pivot → Bool
passes_at rows cs ps k p = pivot_line_passes rows cs (next_column 0 (take k ps)) (reducers rows cs [] (take k ps)) p

-- each of the first n pivots passes after those before it
abbrev pub PassUpTo : ℕ → List (List ℕ) → List Pivot → ℕ → Type 0
PassUpTo rows cs ps n = (k : ℕ) (p : Pivot) → k < n → p ≡ slice_index_or ps k p → passes_at rows cs ps k p ≡ true

-- pivot k is the first that doesn't pass
pub record IsFirstBad (rows : ℕ) (cs : List (List ℕ)) (ps : List Pivot) (k : ℕ) : Type 0 where
  pub inside : k < length ps
  pub before : PassUpTo rows cs ps k
  pub fails : (p : Pivot) → p ≡ slice_index_or ps k p → passes_at rows cs ps k p ≡ false

-- reducers of columns over so many rows
pub record Reducing : Type 0 where
  pub rows : ℕ
  pub list : List Reducer

-- the reducers by their rows and their reduced columns
abbrev pub paired : List ℕ → List (List ℕ) → List Reducer
paired [] cs = []
paired (r ∷ rs) [] = []
paired (r ∷ rs) (c ∷ cs) = record { row = r; column = c } ∷ paired rs cs

-- a column calls for reducer l where it has its row
abbrev pub calls : List Reducer → Rows → Rows
calls [] v l = false
calls (p ∷ ps) v zero = v p.row
calls (p ∷ ps) v (suc l) = calls ps v l

-- reduced column l
abbrev pub reduced_column : List Reducer → ℕ → List ℕ
reduced_column ps l = slice_index_or (map (λ p. p.column) ps) l []

-- the reducer in an entry of the table, as a set
abbrev pub entry_set : Option ℕ → Rows
entry_set (Some l) = only l
entry_set None = none

-- a row calls for the reducer that the table tells
abbrev pub IsRowTable : List Reducer → List (Option ℕ) → Type 0
IsRowTable ps table = (r : ℕ) → calls ps (only r) ≡ entry_set (entry_of table r)

-- each reduced column ascends, and the first reducer that it calls for is its own
pub record AreEchelon (rows : ℕ) (ps : List Reducer) : Type 0 where
  pub ascend : (l : ℕ) → l < length ps → Ascends 0 rows (reduced_column ps l)
  pub own : (l : ℕ) → l < length ps → IsLeast (calls ps (has (reduced_column ps l))) l
