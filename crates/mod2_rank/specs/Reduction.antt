-- What is left of a column when reduced columns are added to it, and the table that tells the pivot of a row.
use Rattle.std.specs.Prelude.{◌≡◌, ℕ, ◌<◌, ◌≤◌, false, List, [], length, slice_index_or, Option, Some, None}
use Rattle.obd_base.specs.Lists.{Mem, has}
use Rattle.mod2_rank.specs.Linear.{Ascends}
use Rattle.mod2_rank.specs.Rows.{IsLeast, Rows, odd_times, plus, total}

-- the reduced columns by their numbers, as tests
abbrev pub tested : (ℕ → List ℕ) → ℕ → Rows
tested reduced l = has (reduced l)

-- what is left of the column c: the sum of it and of the reduced columns that were added, without rows below `low`
pub record IsLeft (rows : ℕ) (c : Rows) (n : ℕ) (reduced : ℕ → List ℕ) (added : List ℕ) (low : ℕ) (v : Rows) : Type 0 where
  pub sum : v ≡ plus c (total (tested reduced) (odd_times added) n)
  pub clear : (k : ℕ) → k < low → v k ≡ false
  pub inside : (k : ℕ) → rows ≤ k → v k ≡ false
  pub early : (l : ℕ) → Mem l added → l < n

-- list l
abbrev pub list_of : List (List ℕ) → ℕ → List ℕ
list_of lists l = slice_index_or lists l []

-- the pivot of a row, by the table
abbrev pub entry_of : List (Option ℕ) → ℕ → Option ℕ
entry_of table r = slice_index_or table r None

-- each pivot in the table has a reduced column, whose least row is the row
abbrev pub IsPivotTable : ℕ → List (List ℕ) → List (Option ℕ) → Type 0
IsPivotTable rows lists table = (r l : ℕ) → entry_of table r ≡ Some l → (l < length lists) × Ascends 0 rows (list_of lists l) × IsLeast (has (list_of lists l)) r

-- the rows below `low` are taken out into a list, the others are in still
pub record IsTaken (rows : ℕ) (whole : Rows) (low : ℕ) (out : List ℕ) (rest : Rows) : Type 0 where
  pub ascends : Ascends 0 low out
  pub same : whole ≡ plus (has out) rest
  pub clear : (k : ℕ) → k < low → rest k ≡ false
  pub inside : (k : ℕ) → rows ≤ k → rest k ≡ false

-- only pivots before a pivot were added to its column
abbrev pub AreEarly : List (List ℕ) → Type 0
AreEarly added = (l a : ℕ) → l < length added → Mem a (list_of added l) → a < l
