use Rattle.std.proofs.Common.{◌≡◌, ◌≤◌, ◌*◌, [], length, take}
use Rattle.mod2_rank.specs.GivenPivots.{PassUpTo}
use Rattle.mod2_rank.specs.PivotLines.{next_column}
use Rattle.mod2_rank.specs.PivotRules.{reducers}
use Rattle.mod2_rank.specs.Rows.{none}
use Rattle.mod2_rank.specs.RowWords.{row_in}
use Rattle.mod2_rank.proofs.GivenVerdict.{rows_of}
use Rattle.mod2_rank.proofs.given_pivots.Reducers.of.Given as goal

-- the pivots so far pass, and their reducers are made
abbrev pub invariant-loop-number : goal.invariant-loop-number
invariant-loop-number l = record {
  left : l.rows ≤ length l.left * 64;
  room : length l.pivots ≤ length l.called * 64;
  empty : row_in l.left ≡ none;
  none_called : row_in l.called ≡ none;
  low : l.low ≡ next_column 0 (take l.number l.pivots);
  made : l.made ≡ record { rows = l.rows; list = reducers l.rows (rows_of l.columns) [] (take l.number l.pivots) };
  pass : PassUpTo l.rows (rows_of l.columns) l.pivots l.number;
}
