use Rattle.std.proofs.Common.{subst}
use Rattle.witness_check.specs.Lines.{polygon_line}
use Rattle.witness_check.specs.Passing.{RowsRead}
use Rattle.witness_check.proofs.PolygonsStage.{polygons_broken, polygons_passed, polygons_refuted, polygons_uncounted}
use Rattle.witness_check.proofs.HandedOn.{err_of, err_on, if_ok, lent_rows, of_ok, ok_on}
use Rattle.witness_check.proofs.Staged.{rows_all}
use Rattle.witness_check.proofs.polygons_stage.polygons_stage.Goals as goal

pub returns-in_err-count-clause-refuted : goal.returns-in_err-count-clause-refuted
returns-in_err-count-clause-refuted c =
    err_of _ c.in_err-count.field-0.0 c.from_residual.result c.from_residual.ensures.1
    (λ text after. polygons_uncounted text c.args.lines.now after c.next_count.new.lines c.in_err-count.field-0.0 c.in_err-count.ensures.refused)

pub returns-in_err-all_read-clause-refuted : goal.returns-in_err-all_read-clause-refuted
returns-in_err-all_read-clause-refuted c =
    err_of _ c.in_err-all_read.field-0.0 c.from_residual-in_err-all_read.result c.from_residual-in_err-all_read.ensures.1
    (λ text after. polygons_broken text c.args.lines.now after c.next_count.new.lines c.read_rows.new.lines c.in_ok-count.count c.in_ok-rows.rows.items c.in_ok-count.ensures.read c.in_ok-count.ensures.within
    c.in_ok-rows.rows.breaks c.in_err-all_read.ensures.broken.0 c.in_err-all_read.field-0.0 c.in_ok-rows.ensures c.in_err-all_read.ensures.broken.1 c.in_err-all_read.ensures.broken.2)

pub all_polygons-found-requires-clause-some : goal.all_polygons-found-requires-clause-some
all_polygons-found-requires-clause-some c =
    (rows_all (λ i. polygon_line) c.in_ok-count.count c.next_count.new.lines c.read_rows.new.lines c.as_slice.result.now c.in_ok-rows.rows.breaks 1 16
    (lent_rows (λ i. polygon_line) c.in_ok-count.count c.next_count.new.lines c.read_rows.new.lines c.in_ok-rows.rows.items c.as_slice.result.now c.in_ok-rows.rows.breaks c.as_slice.ensures c.in_ok-rows.ensures)
    c.in_ok-all_read.ensures.whole c.in_ok-count.ensures.within).0

pub all_polygons-found-requires-clause-few : goal.all_polygons-found-requires-clause-few
all_polygons-found-requires-clause-few c =
    (rows_all (λ i. polygon_line) c.in_ok-count.count c.next_count.new.lines c.read_rows.new.lines c.as_slice.result.now c.in_ok-rows.rows.breaks 1 16
    (lent_rows (λ i. polygon_line) c.in_ok-count.count c.next_count.new.lines c.read_rows.new.lines c.in_ok-rows.rows.items c.as_slice.result.now c.in_ok-rows.rows.breaks c.as_slice.ensures c.in_ok-rows.ensures)
    c.in_ok-all_read.ensures.whole c.in_ok-count.ensures.within).1

pub returns-clause-passed : goal.returns-clause-passed
returns-clause-passed c =
    ok_on c.settled.result c.settled.ensures.made
    (λ made so text after. polygons_passed text c.args.lines.now after c.next_count.new.lines c.read_rows.new.lines c.in_ok-count.count c.as_slice.result.now
    c.in_ok-count.ensures.read c.in_ok-count.ensures.within
    (subst (λ b. RowsRead (λ i. polygon_line) c.in_ok-count.count c.next_count.new.lines c.read_rows.new.lines c.as_slice.result.now b) c.in_ok-all_read.ensures.whole
    (lent_rows (λ i. polygon_line) c.in_ok-count.count c.next_count.new.lines c.read_rows.new.lines c.in_ok-rows.rows.items c.as_slice.result.now c.in_ok-rows.rows.breaks c.as_slice.ensures c.in_ok-rows.ensures))
    made (if_ok _ c.all_polygons-found.result made so.0 c.all_polygons-found.ensures.page) (of_ok c.all_polygons-found.result made so.0 c.all_polygons-found.ensures.kept))

pub returns-clause-refuted : goal.returns-clause-refuted
returns-clause-refuted c =
    err_on c.settled.result c.settled.ensures.refused
    (λ refusal settles text after. polygons_refuted text c.args.lines.now after c.next_count.new.lines c.read_rows.new.lines c.in_ok-count.count c.as_slice.result.now
    c.in_ok-count.ensures.read c.in_ok-count.ensures.within
    (subst (λ b. RowsRead (λ i. polygon_line) c.in_ok-count.count c.next_count.new.lines c.read_rows.new.lines c.as_slice.result.now b) c.in_ok-all_read.ensures.whole
    (lent_rows (λ i. polygon_line) c.in_ok-count.count c.next_count.new.lines c.read_rows.new.lines c.in_ok-rows.rows.items c.as_slice.result.now c.in_ok-rows.rows.breaks c.as_slice.ensures c.in_ok-rows.ensures))
    c.number-first.result c.all_polygons-found.result refusal c.number-first.ensures.value c.number-first.ensures.few c.all_polygons-found.ensures.kept c.all_polygons-found.ensures.fault settles)
