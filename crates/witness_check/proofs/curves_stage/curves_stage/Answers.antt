use Rattle.std.proofs.Common.{subst}
use Rattle.witness_check.specs.Between.{AfterCurves}
use Rattle.witness_check.specs.Lines.{curve_line}
use Rattle.witness_check.proofs.CurveLines.{have_occurrences}
use Rattle.witness_check.proofs.LineLaws.{curve_law}
use Rattle.witness_check.proofs.CurvesStage.{curves_passed, curves_refuted, curves_uncounted}
use Rattle.witness_check.proofs.HandedOn.{err_of, lent_rows, of_ok}
use Rattle.witness_check.proofs.Staged.{rows_at_most, rows_fitting}
use Rattle.witness_check.proofs.curves_stage.curves_stage.Goals as goal

pub returns-in_err-count-clause-refuted : goal.returns-in_err-count-clause-refuted
returns-in_err-count-clause-refuted c =
    err_of _ c.in_err-count.field-0.0 c.from_residual.result c.from_residual.ensures.1
    (λ text after. curves_uncounted c.args.page.now text c.args.lines.now after c.next_count.new.lines c.in_err-count.field-0.0 c.in_err-count.ensures.refused)

pub curves_of-found-requires-clause-few : goal.curves_of-found-requires-clause-few
curves_of-found-requires-clause-few c =
    rows_at_most (λ i. curve_line) c.in_ok-count.count c.next_count.new.lines c.read_rows.new.lines c.as_slice.result.now c.in_ok-rows.rows.breaks 0 32
    (lent_rows (λ i. curve_line) c.in_ok-count.count c.next_count.new.lines c.read_rows.new.lines c.in_ok-rows.rows.items c.as_slice.result.now c.in_ok-rows.rows.breaks c.as_slice.ensures c.in_ok-rows.ensures) c.in_ok-count.ensures.within

pub curves_of-found-requires-clause-occurrences : goal.curves_of-found-requires-clause-occurrences
curves_of-found-requires-clause-occurrences c =
    have_occurrences c.as_slice.result.now (rows_fitting curve_line curve_law c.in_ok-count.count c.next_count.new.lines c.read_rows.new.lines c.as_slice.result.now c.in_ok-rows.rows.breaks
    (lent_rows (λ i. curve_line) c.in_ok-count.count c.next_count.new.lines c.read_rows.new.lines c.in_ok-rows.rows.items c.as_slice.result.now c.in_ok-rows.rows.breaks c.as_slice.ensures c.in_ok-rows.ensures))

pub returns-in_err-on_page-clause-refuted : goal.returns-in_err-on_page-clause-refuted
returns-in_err-on_page-clause-refuted c =
    err_of _ c.in_err-on_page.field-0.0 c.from_residual-in_err-on_page.result c.from_residual-in_err-on_page.ensures.1
    (λ text after. curves_refuted c.args.page.now text c.args.lines.now after c.next_count.new.lines c.read_rows.new.lines c.in_ok-count.count c.as_slice.result.now c.in_ok-rows.rows.breaks
    c.in_ok-count.ensures.read c.in_ok-count.ensures.within
    (lent_rows (λ i. curve_line) c.in_ok-count.count c.next_count.new.lines c.read_rows.new.lines c.in_ok-rows.rows.items c.as_slice.result.now c.in_ok-rows.rows.breaks c.as_slice.ensures c.in_ok-rows.ensures)
    c.number-first.result c.curves_of-found.result c.in_err-on_page.field-0.0 c.number-first.ensures.value c.number-first.ensures.few c.curves_of-found.ensures.kept c.curves_of-found.ensures.fault c.in_err-on_page.ensures.refused)

pub returns-clause-passed : goal.returns-clause-passed
returns-clause-passed c text after =
    subst (λ xs. AfterCurves c.args.page.now xs text c.read_rows.new.lines) c.as_slice.ensures
    (curves_passed c.args.page.now text c.args.lines.now after c.next_count.new.lines c.read_rows.new.lines c.in_ok-count.count c.as_slice.result.now c.in_ok-rows.rows.breaks
    c.in_ok-count.ensures.read c.in_ok-count.ensures.within
    (lent_rows (λ i. curve_line) c.in_ok-count.count c.next_count.new.lines c.read_rows.new.lines c.in_ok-rows.rows.items c.as_slice.result.now c.in_ok-rows.rows.breaks c.as_slice.ensures c.in_ok-rows.ensures)
    c.in_ok-on_page.ensures.made.1 (of_ok c.curves_of-found.result c.in_ok-on_page.on_page c.in_ok-on_page.ensures.made.0 c.curves_of-found.ensures.kept))

pub returns-clause-few : goal.returns-clause-few
returns-clause-few c =
    rows_at_most (λ i. curve_line) c.in_ok-count.count c.next_count.new.lines c.read_rows.new.lines c.in_ok-rows.rows.items c.in_ok-rows.rows.breaks 0 32 c.in_ok-rows.ensures c.in_ok-count.ensures.within
