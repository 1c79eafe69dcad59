-- The rules that a list of pivots is held to, whoever wrote it: their columns are reduced one after another.
use Rattle.std.specs.Prelude.{◌≡◌, ℕ, ◌<◌, true, cond, List, [], ◌∷◌, ◌++◌, map, length, All}
use Rattle.std.specs.List.{list_all}
use Rattle.obd_base.specs.Lists.{has}
use Rattle.mod2_rank.specs.Linear.{Ascends, column_at, is_empty, sum_of}
use Rattle.mod2_rank.specs.declared.outcome.Pivot.{Pivot}

-- a pivot's row, and its reduced column
pub record Reducer : Type 0 where
  pub row : ℕ
  pub column : List ℕ

-- a column, to which the reduced column is added where it has the row
abbrev pub reduced_once : ℕ → Reducer → List ℕ → List ℕ
reduced_once rows p c = cond (has c p.row) (sum_of rows (c ∷ p.column ∷ [])) c

-- a column, reduced by each in order
abbrev pub reduced_by : ℕ → List Reducer → List ℕ → List ℕ
reduced_by rows [] c = c
reduced_by rows (p ∷ ps) c = reduced_by rows ps (reduced_once rows p c)

-- a pivot's row, and its column reduced by those before
abbrev pub reducer : ℕ → List (List ℕ) → List Reducer → Pivot → Reducer
reducer rows cs before p = record { row = p.row; column = reduced_by rows before (column_at cs p.column) }

-- those of all pivots in order, after those before
abbrev pub reducers : ℕ → List (List ℕ) → List Reducer → List Pivot → List Reducer
reducers rows cs before [] = before
reducers rows cs before (p ∷ ps) = reducers rows cs (before ++ reducer rows cs before p ∷ []) ps

-- the rules: the columns ascend, the rows are rows, each reduced column has its row, and every column reduces to nothing
pub record MeetRules (rows : ℕ) (cs : List (List ℕ)) (ps : List Pivot) : Type 0 where
  pub ascend : Ascends 0 (length cs) (map (λ p. p.column) ps)
  pub inside : All (λ p. p.row < rows) ps
  pub own : list_all (λ p. has p.column p.row) (reducers rows cs [] ps) ≡ true
  pub complete : list_all (λ c. is_empty (reduced_by rows (reducers rows cs [] ps) c)) cs ≡ true
