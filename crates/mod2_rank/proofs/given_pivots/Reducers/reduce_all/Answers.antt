use Rattle.std.proofs.Common.{ℕ, List, not, sym, ap, ◌∙◌, subst, arith, length}
use Rattle.mod2_rank.specs.Linear.{Ascends, is_empty}
use Rattle.mod2_rank.specs.PivotRules.{reduced_by}
use Rattle.mod2_rank.specs.RowWords.{row_in}
use Rattle.mod2_rank.proofs.Columns.{column_ascends}
use Rattle.mod2_rank.proofs.GivenPivots.{empty_exactly, none_left}
use Rattle.mod2_rank.proofs.GivenVerdict.{all_next, all_taken, column_read, not_all, rows_inside, rows_of}
use Rattle.mod2_rank.proofs.given_pivots.Reducers.reduce_all.Goals as goal

pub reduce-requires-clause-column : goal.reduce-requires-clause-column
reduce-requires-clause-column c =
    let column = column_read c.args.columns.now c.loop-column.column-index c.column-item.result c.as_slice.result.now c.loop-column-test.true c.column-item.is c.as_slice.ensures in
    subst (λ (x : List ℕ). Ascends 0 c.args.self.now.rows x) (sym column) (column_ascends c.args.self.now.rows (rows_of c.args.columns.now) c.loop-column.column-index c.requires.ascend)

pub returns-then-is_some : goal.returns-then-is_some
returns-then-is_some c =
    let rows = c.args.self.now.rows in
    let ps = c.args.self.now.list in
    let column = column_read c.args.columns.now c.loop-column.column-index c.column-item.result c.as_slice.result.now c.loop-column-test.true c.column-item.is c.as_slice.ensures in
    let same = ap (λ (s : List ℕ). row_in s) c.least_from.ensures.same ∙ c.reduce.ensures.reduced in
    let empty = empty_exactly (reduced_by rows ps c.as_slice.result.now) (row_in c.least_from.new.self) c.least_from.result c.is_some.result c.is_some.ensures same c.least_from.ensures.least c.least_from.ensures.none in
    not_all (λ x. is_empty (reduced_by rows ps x)) (rows_of c.args.columns.now) c.loop-column.column-index c.as_slice.result.now (rows_inside c.args.columns.now c.loop-column.column-index c.loop-column-test.true) column (empty ∙ ap not c.if-is_some.true)

pub loop-column-preserved : goal.loop-column-preserved
loop-column-preserved c =
    let rows = c.args.self.now.rows in
    let ps = c.args.self.now.list in
    let column = column_read c.args.columns.now c.loop-column.column-index c.column-item.result c.as_slice.result.now c.loop-column-test.true c.column-item.is c.as_slice.ensures in
    let same = ap (λ (s : List ℕ). row_in s) c.least_from.ensures.same ∙ c.reduce.ensures.reduced in
    let empty = empty_exactly (reduced_by rows ps c.as_slice.result.now) (row_in c.least_from.new.self) c.least_from.result c.is_some.result c.is_some.ensures same c.least_from.ensures.least c.least_from.ensures.none in
    record {
      left = omega (arith, c.loop-column.invariant.left, c.reduce.ensures.left, ap length c.least_from.ensures.same);
      room = omega (arith, c.loop-column.invariant.room, c.reduce.ensures.room);
      empty = none_left (row_in c.least_from.new.self) c.least_from.result c.least_from.ensures.none (sym c.is_some.ensures ∙ c.if-is_some.false);
      none_called = c.reduce.ensures.none_called;
      pass = all_next (λ x. is_empty (reduced_by rows ps x)) (rows_of c.args.columns.now) c.loop-column.column-index c.as_slice.result.now (rows_inside c.args.columns.now c.loop-column.column-index c.loop-column-test.true) column (empty ∙ ap not c.if-is_some.false) c.loop-column.invariant.pass;
    }

pub returns : goal.returns
returns c = all_taken (λ x. is_empty (reduced_by c.args.self.now.rows c.args.self.now.list x)) c.args.columns.now c.loop-column.column-index (omega (arith, c.loop-column-test.false)) c.loop-column.invariant.pass
