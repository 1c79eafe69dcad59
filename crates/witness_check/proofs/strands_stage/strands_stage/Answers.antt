use Rattle.std.proofs.Common.{◌/◌, None, Some, ap}
use Rattle.page_surface.specs.Polygon.{arc_count}
use Rattle.witness_check.proofs.HandedOn.{err_on, if_ok, of_ok, ok_on}
use Rattle.witness_check.proofs.Staged.{rows_count}
use Rattle.witness_check.proofs.StrandsStage.{lent_strands, shape, strands_broken, strands_passed, strands_refuted}
use Rattle.witness_check.proofs.strands_stage.strands_stage.Goals as goal

pub returns-in-Some-clause-refuted : goal.returns-in-Some-clause-refuted
returns-in-Some-clause-refuted c text after =
    strands_broken c.args.polygon.now c.args.words.now text c.args.lines.now after c.read_rows.new.lines c.as_slice.result.now c.number-first.result c.in-Some.line c.first_wrong_word-fault.result c.broken_off.result
    c.number-first.ensures.value c.number-first.ensures.few
    (lent_strands (c.sides-count.result / 2) (arc_count c.args.polygon.now) c.args.lines.now c.read_rows.new.lines c.in_ok-rows.rows.items c.as_slice.result.now c.in_ok-rows.rows.breaks (Some c.in-Some.line)
    (ap (λ k. k / 2) c.sides-count.ensures.value) c.as_slice.ensures c.in-Some.is c.in_ok-rows.ensures)
    c.first_wrong_word-fault.ensures.begun c.broken_off.ensures

pub first_drawing-tried-requires-clause-each : goal.first_drawing-tried-requires-clause-each
first_drawing-tried-requires-clause-each c =
    rows_count shape (arc_count c.args.polygon.now) c.args.lines.now c.read_rows.new.lines c.as_slice-2.result.now
    (lent_strands (c.sides-count.result / 2) (arc_count c.args.polygon.now) c.args.lines.now c.read_rows.new.lines c.in_ok-rows.rows.items c.as_slice-2.result.now c.in_ok-rows.rows.breaks None
    (ap (λ k. k / 2) c.sides-count.ensures.value) c.as_slice-2.ensures c.in_default.is c.in_ok-rows.ensures)

pub returns-clause-passed : goal.returns-clause-passed
returns-clause-passed c =
    ok_on c.settled.result c.settled.ensures.made
    (λ made so text after. strands_passed c.args.polygon.now c.args.words.now text c.args.lines.now after c.read_rows.new.lines c.as_slice-2.result.now made.drawing
    (lent_strands (c.sides-count.result / 2) (arc_count c.args.polygon.now) c.args.lines.now c.read_rows.new.lines c.in_ok-rows.rows.items c.as_slice-2.result.now c.in_ok-rows.rows.breaks None
    (ap (λ k. k / 2) c.sides-count.ensures.value) c.as_slice-2.ensures c.in_default.is c.in_ok-rows.ensures)
    (of_ok c.first_drawing-tried.result made so.0 c.first_drawing-tried.ensures.kept) (if_ok _ c.first_drawing-tried.result made so.0 c.first_drawing-tried.ensures.drawing))

pub returns-clause-refuted : goal.returns-clause-refuted
returns-clause-refuted c =
    err_on c.settled.result c.settled.ensures.refused
    (λ refusal settles text after. strands_refuted c.args.polygon.now c.args.words.now text c.args.lines.now after c.read_rows.new.lines c.as_slice-2.result.now c.number-first.result c.first_drawing-tried.result refusal
    c.number-first.ensures.value c.number-first.ensures.few
    (lent_strands (c.sides-count.result / 2) (arc_count c.args.polygon.now) c.args.lines.now c.read_rows.new.lines c.in_ok-rows.rows.items c.as_slice-2.result.now c.in_ok-rows.rows.breaks None
    (ap (λ k. k / 2) c.sides-count.ensures.value) c.as_slice-2.ensures c.in_default.is c.in_ok-rows.ensures)
    c.first_drawing-tried.ensures.kept c.first_drawing-tried.ensures.fault settles)
