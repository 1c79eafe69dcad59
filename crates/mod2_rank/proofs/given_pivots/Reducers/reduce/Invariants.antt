use Rattle.std.proofs.Common.{◌≡◌, ◌<◌, ◌≤◌, ◌-◌, ℕ, false, length}
use Rattle.obd_base.specs.Lists.{has}
use Rattle.mod2_rank.specs.GivenPivots.{calls}
use Rattle.mod2_rank.specs.RowWords.{row_in}
use Rattle.mod2_rank.proofs.GivenPivots.{left_by}
use Rattle.mod2_rank.proofs.given_pivots.Reducers.reduce.Given as goal

-- what is left reduces to the same, and calls for no pivot so far
abbrev pub invariant-loop-pivot : goal.invariant-loop-pivot
invariant-loop-pivot l = record {
  left : length l.left ≡ length l.fn.left;
  room : length l.called ≡ length l.fn.called;
  within : l.low ≤ length l.self.list;
  called : row_in l.called ≡ calls l.self.list (row_in l.left);
  clear : (k : ℕ) → k < l.low → row_in l.called k ≡ false;
  same : left_by l.self.list (row_in l.left) ≡ left_by l.self.list (has l.column);
}

abbrev pub decreases-loop-pivot : goal.decreases-loop-pivot
decreases-loop-pivot l = length l.self.list - l.low
