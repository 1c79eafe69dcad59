use Rattle.std.proofs.Common.{◌≡◌, length, take}
use Rattle.mod2_rank.specs.Linear.{columns_at}
use Rattle.mod2_rank.specs.Rows.{plus}
use Rattle.mod2_rank.specs.RowWords.{row_in}
use Rattle.mod2_rank.proofs.Ascending.{sum_up, tests}
use Rattle.mod2_rank.proofs.GivenVerdict.{rows_of}
use Rattle.mod2_rank.proofs.given_verdict.add_columns.Given as goal

-- the columns so far are added
abbrev pub invariant-loop-number : goal.invariant-loop-number
invariant-loop-number l = record {
  room : length l.sum ≡ length l.fn.sum;
  rows : row_in l.sum ≡ plus (row_in l.fn.sum) (sum_up (tests (columns_at (rows_of l.columns) (take l.number-index l.numbers))));
}
