use Rattle.std.proofs.Common.{◌∙◌, arith, length}
use Rattle.mod2_rank.specs.RowWords.{row_in}
use Rattle.mod2_rank.proofs.ColumnSteps.{ascends_all}
use Rattle.mod2_rank.proofs.GivenVerdict.{added_all, added_next, lent_read, rows_fit, rows_of}
use Rattle.mod2_rank.proofs.given_verdict.add_columns.Goals as goal

pub bounds-columns-number : goal.bounds-columns-number
bounds-columns-number c =
    ascends_all c.args.numbers.now 0 (length c.args.columns.now) (length c.args.columns.now) c.requires.numbers (omega arith) c.loop-number.number-index 0 c.loop-number-test.true

pub add-requires : goal.add-requires
add-requires c = λ k d l.
    let inside = ascends_all c.args.numbers.now 0 (length c.args.columns.now) (length c.args.columns.now) c.requires.numbers (omega arith) c.loop-number.number-index 0 c.loop-number-test.true in
    let column = lent_read c.args.columns.now _ c.index-columns-number.result c.as_slice.result.now inside c.index-columns-number.is c.as_slice.ensures in
    rows_fit c.args.rows _ (rows_of c.args.columns.now) _ c.as_slice.result.now c.requires.ascend column (omega (arith, c.requires.room, c.loop-number.invariant.room)) k d l

pub loop-number-preserved : goal.loop-number-preserved
loop-number-preserved c =
    let inside = ascends_all c.args.numbers.now 0 (length c.args.columns.now) (length c.args.columns.now) c.requires.numbers (omega arith) c.loop-number.number-index 0 c.loop-number-test.true in
    let column = lent_read c.args.columns.now _ c.index-columns-number.result c.as_slice.result.now inside c.index-columns-number.is c.as_slice.ensures in
    record {
      room = c.add.ensures.room ∙ c.loop-number.invariant.room;
      rows = added_next c.args.rows (rows_of c.args.columns.now) c.args.numbers.now c.requires.ascend c.loop-number.number-index c.as_slice.result.now (row_in c.args.sum.now) (row_in c.loop-number.sum) (row_in c.add.new.self)
          c.loop-number-test.true column c.loop-number.invariant.rows c.add.ensures.rows;
    }

pub returns-clause-rows : goal.returns-clause-rows
returns-clause-rows c =
    added_all c.args.rows (rows_of c.args.columns.now) c.args.numbers.now c.requires.ascend c.loop-number.number-index (row_in c.args.sum.now) (row_in c.loop-number.sum) (omega (arith, c.loop-number-test.false)) c.loop-number.invariant.rows
