use Rattle.std.proofs.Common.{◌∙◌, sym, ap, arith, count_by}
use Rattle.std.proofs.lemmas.Bool.{not_from_false, not_from_true}
use Rattle.obd_base.specs.Lists.{is_odd}
use Rattle.mod2_rank.specs.Linear.{meets_evenly}
use Rattle.mod2_rank.specs.Rows.{Rows}
use Rattle.mod2_rank.proofs.GivenVerdict.{all_next, all_taken, column_read, not_all, rows_fit, rows_inside, rows_of}
use Rattle.mod2_rank.proofs.given_verdict.all_even.Goals as goal

pub is_odd_in-requires : goal.is_odd_in-requires
is_odd_in-requires c = λ k d l.
    let column = column_read c.args.columns.now c.loop-column.column-index c.column-item.result c.as_slice.result.now c.loop-column-test.true c.column-item.is c.as_slice.ensures in
    rows_fit c.args.rows _ (rows_of c.args.columns.now) c.loop-column.column-index c.as_slice.result.now c.requires.ascend column c.requires.room k d l

pub returns-then-is_odd_in : goal.returns-then-is_odd_in
returns-then-is_odd_in c =
    let column = column_read c.args.columns.now c.loop-column.column-index c.column-item.result c.as_slice.result.now c.loop-column-test.true c.column-item.is c.as_slice.ensures in
    let odd = c.if-is_odd_in.ensures ∙ ap (λ (v : Rows). is_odd (count_by v c.as_slice.result.now)) c.requires.set in
    not_all (meets_evenly c.args.functional.now) (rows_of c.args.columns.now) c.loop-column.column-index c.as_slice.result.now (rows_inside c.args.columns.now c.loop-column.column-index c.loop-column-test.true) column (not_from_true _ (sym odd))

pub loop-column-preserved : goal.loop-column-preserved
loop-column-preserved c =
    let column = column_read c.args.columns.now c.loop-column.column-index c.column-item.result c.as_slice.result.now c.loop-column-test.true c.column-item.is c.as_slice.ensures in
    let even = c.if-is_odd_in.ensures ∙ ap (λ (v : Rows). is_odd (count_by v c.as_slice.result.now)) c.requires.set in
    all_next (meets_evenly c.args.functional.now) (rows_of c.args.columns.now) c.loop-column.column-index c.as_slice.result.now (rows_inside c.args.columns.now c.loop-column.column-index c.loop-column-test.true) column (not_from_false _ (sym even)) c.loop-column.invariant

pub returns : goal.returns
returns c = all_taken (meets_evenly c.args.functional.now) c.args.columns.now c.loop-column.column-index (omega (arith, c.loop-column-test.false)) c.loop-column.invariant
