use Rattle.std.proofs.Common.{◌/◌, ℕ, None, Some, ap, ◌∙◌}
use Rattle.page_surface.specs.Polygon.{arc_count, sides}
use Rattle.witness_check.proofs.HandedOn.{err_on, if_ok, of_ok, ok_on}
use Rattle.witness_check.proofs.Staged.{rows_count}
use Rattle.witness_check.proofs.FinalsStage.{finals_broken, finals_few, finals_passed, finals_refuted, lent_finals, shape}
use Rattle.witness_check.proofs.finals_stage.finals_stage.Goals as goal

pub first_wrong_final-fault-requires : goal.first_wrong_final-fault-requires
first_wrong_final-fault-requires c =
    record {
      few = finals_few (arc_count c.args.drawing.drawing.polygon) c.args.lines.now c.read_rows.new.lines c.as_slice.result.now (Some c.in-Some.line)
          (lent_finals (c.sides-count.result / 2) (arc_count c.args.drawing.drawing.polygon) c.args.lines.now c.read_rows.new.lines c.in_ok-rows.rows.items c.as_slice.result.now c.in_ok-rows.rows.breaks (Some c.in-Some.line)
          (ap (λ (k : ℕ). k / 2) (c.sides-count.ensures.value ∙ ap sides c.polygon.ensures)) c.as_slice.ensures c.in-Some.is c.in_ok-rows.ensures);
    }

pub returns-in-Some-clause-refuted : goal.returns-in-Some-clause-refuted
returns-in-Some-clause-refuted c text after =
    finals_broken c.args.drawing.drawing text c.args.lines.now after c.read_rows.new.lines c.as_slice.result.now c.number-first.result c.in-Some.line c.first_wrong_final-fault.result c.broken_off.result
    c.number-first.ensures.value c.number-first.ensures.few
    (lent_finals (c.sides-count.result / 2) (arc_count c.args.drawing.drawing.polygon) c.args.lines.now c.read_rows.new.lines c.in_ok-rows.rows.items c.as_slice.result.now c.in_ok-rows.rows.breaks (Some c.in-Some.line)
    (ap (λ (k : ℕ). k / 2) (c.sides-count.ensures.value ∙ ap sides c.polygon.ensures)) c.as_slice.ensures c.in-Some.is c.in_ok-rows.ensures)
    c.first_wrong_final-fault.ensures.begun c.broken_off.ensures

pub last_drawing-tried-requires : goal.last_drawing-tried-requires
last_drawing-tried-requires c =
    record {
      each = rows_count shape (arc_count c.args.drawing.drawing.polygon) c.args.lines.now c.read_rows.new.lines c.as_slice-2.result.now
          (lent_finals (c.sides-count.result / 2) (arc_count c.args.drawing.drawing.polygon) c.args.lines.now c.read_rows.new.lines c.in_ok-rows.rows.items c.as_slice-2.result.now c.in_ok-rows.rows.breaks None
          (ap (λ (k : ℕ). k / 2) (c.sides-count.ensures.value ∙ ap sides c.polygon.ensures)) c.as_slice-2.ensures c.in_default.is c.in_ok-rows.ensures);
    }

pub returns-clause-passed : goal.returns-clause-passed
returns-clause-passed c =
    ok_on c.settled.result c.settled.ensures.made
    (λ last so text after. finals_passed c.args.drawing.drawing text c.args.lines.now after c.read_rows.new.lines c.as_slice-2.result.now last.diagram
    (lent_finals (c.sides-count.result / 2) (arc_count c.args.drawing.drawing.polygon) c.args.lines.now c.read_rows.new.lines c.in_ok-rows.rows.items c.as_slice-2.result.now c.in_ok-rows.rows.breaks None
    (ap (λ (k : ℕ). k / 2) (c.sides-count.ensures.value ∙ ap sides c.polygon.ensures)) c.as_slice-2.ensures c.in_default.is c.in_ok-rows.ensures)
    (of_ok c.last_drawing-tried.result last so.0 c.last_drawing-tried.ensures.kept) (if_ok _ c.last_drawing-tried.result last so.0 c.last_drawing-tried.ensures.diagram))

pub returns-clause-last : goal.returns-clause-last
returns-clause-last c = ok_on c.settled.result c.settled.ensures.made (λ last so. if_ok _ c.last_drawing-tried.result last so.0 c.last_drawing-tried.ensures.nice)

pub returns-clause-refuted : goal.returns-clause-refuted
returns-clause-refuted c =
    err_on c.settled.result c.settled.ensures.refused
    (λ refusal settles text after. finals_refuted c.args.drawing.drawing text c.args.lines.now after c.read_rows.new.lines c.as_slice-2.result.now c.number-first.result c.last_drawing-tried.result refusal
    c.number-first.ensures.value c.number-first.ensures.few
    (lent_finals (c.sides-count.result / 2) (arc_count c.args.drawing.drawing.polygon) c.args.lines.now c.read_rows.new.lines c.in_ok-rows.rows.items c.as_slice-2.result.now c.in_ok-rows.rows.breaks None
    (ap (λ (k : ℕ). k / 2) (c.sides-count.ensures.value ∙ ap sides c.polygon.ensures)) c.as_slice-2.ensures c.in_default.is c.in_ok-rows.ensures)
    c.last_drawing-tried.ensures.kept c.last_drawing-tried.ensures.fault settles)
