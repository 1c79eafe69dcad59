use Rattle.std.proofs.Common.{◌≡◌, ◌≤◌, ◌*◌, true, length, take}
use Rattle.std.specs.List.{list_all}
use Rattle.mod2_rank.specs.Linear.{is_empty}
use Rattle.mod2_rank.specs.PivotRules.{reduced_by}
use Rattle.mod2_rank.specs.Rows.{none}
use Rattle.mod2_rank.specs.RowWords.{row_in}
use Rattle.mod2_rank.proofs.GivenVerdict.{rows_of}
use Rattle.mod2_rank.proofs.given_pivots.Reducers.reduce_all.Given as goal

-- the columns so far reduce to nothing
abbrev pub invariant-loop-column : goal.invariant-loop-column
invariant-loop-column l = record {
  left : l.self.rows ≤ length l.left * 64;
  room : length l.self.list ≤ length l.called * 64;
  empty : row_in l.left ≡ none;
  none_called : row_in l.called ≡ none;
  pass : list_all (λ c. is_empty (reduced_by l.self.rows l.self.list c)) (take l.column-index (rows_of l.columns)) ≡ true;
}
