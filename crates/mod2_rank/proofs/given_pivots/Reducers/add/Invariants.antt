use Rattle.std.proofs.Common.{◌≡◌, length, take}
use Rattle.mod2_rank.specs.GivenPivots.{calls}
use Rattle.mod2_rank.specs.Rows.{odd_times, plus}
use Rattle.mod2_rank.specs.RowWords.{row_in}
use Rattle.mod2_rank.proofs.given_pivots.Reducers.add.Given as goal

-- the rows so far are toggled, and their pivots
abbrev pub invariant-loop-row : goal.invariant-loop-row
invariant-loop-row l = record {
  left : length l.left ≡ length l.fn.left;
  room : length l.called ≡ length l.fn.called;
  rows : row_in l.left ≡ plus (row_in l.fn.left) (odd_times (take l.row-index l.rows));
  called : row_in l.called ≡ calls l.self.list (row_in l.left);
}
