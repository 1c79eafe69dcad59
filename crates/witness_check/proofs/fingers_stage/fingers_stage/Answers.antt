use Rattle.witness_check.specs.Lines.{finger_line}
use Rattle.witness_check.proofs.FingersStage.{fingers_passed, fingers_refuted, fingers_uncounted}
use Rattle.witness_check.proofs.HandedOn.{err_of, err_on, if_ok, lent_rows, of_ok, ok_on}
use Rattle.witness_check.proofs.Staged.{rows_at_most}
use Rattle.witness_check.proofs.fingers_stage.fingers_stage.Goals as goal

pub returns-in_err-count-clause-refuted : goal.returns-in_err-count-clause-refuted
returns-in_err-count-clause-refuted c =
    err_of _ c.in_err-count.field-0.0 c.from_residual.result c.from_residual.ensures.1
    (λ text after. fingers_uncounted c.args.drawing.drawing text c.args.lines.now after c.next_count.new.lines c.in_err-count.field-0.0 c.in_err-count.ensures.refused)

pub moved-requires-clause-fingers : goal.moved-requires-clause-fingers
moved-requires-clause-fingers c =
    rows_at_most (λ i. finger_line) c.in_ok-count.count c.next_count.new.lines c.read_rows.new.lines c.as_slice.result.now c.in_ok-rows.rows.breaks 0 20000
    (lent_rows (λ i. finger_line) c.in_ok-count.count c.next_count.new.lines c.read_rows.new.lines c.in_ok-rows.rows.items c.as_slice.result.now c.in_ok-rows.rows.breaks c.as_slice.ensures c.in_ok-rows.ensures)
    c.in_ok-count.ensures.within

pub returns-clause-passed : goal.returns-clause-passed
returns-clause-passed c =
    ok_on c.settled.result c.settled.ensures.made
    (λ made so text after. fingers_passed c.args.drawing.drawing text c.args.lines.now after c.next_count.new.lines c.read_rows.new.lines c.in_ok-count.count c.as_slice.result.now c.in_ok-rows.rows.breaks
    c.in_ok-count.ensures.read c.in_ok-count.ensures.within
    (lent_rows (λ i. finger_line) c.in_ok-count.count c.next_count.new.lines c.read_rows.new.lines c.in_ok-rows.rows.items c.as_slice.result.now c.in_ok-rows.rows.breaks c.as_slice.ensures c.in_ok-rows.ensures)
    made.drawing so.1 (of_ok c.moved.result made so.0 c.moved.ensures.kept) (if_ok _ c.moved.result made so.0 c.moved.ensures.drawing) (if_ok _ c.moved.result made so.0 c.moved.ensures.polygon))

pub returns-clause-polygon : goal.returns-clause-polygon
returns-clause-polygon c = ok_on c.settled.result c.settled.ensures.made (λ made so. if_ok _ c.moved.result made so.0 c.moved.ensures.polygon)

pub returns-clause-refuted : goal.returns-clause-refuted
returns-clause-refuted c =
    err_on c.settled.result c.settled.ensures.refused
    (λ refusal settles text after. fingers_refuted c.args.drawing.drawing text c.args.lines.now after c.next_count.new.lines c.read_rows.new.lines c.in_ok-count.count c.as_slice.result.now c.in_ok-rows.rows.breaks
    c.in_ok-count.ensures.read c.in_ok-count.ensures.within
    (lent_rows (λ i. finger_line) c.in_ok-count.count c.next_count.new.lines c.read_rows.new.lines c.in_ok-rows.rows.items c.as_slice.result.now c.in_ok-rows.rows.breaks c.as_slice.ensures c.in_ok-rows.ensures)
    c.number-first.result c.moved.result refusal c.number-first.ensures.value c.number-first.ensures.few c.moved.ensures.kept c.moved.ensures.fault settles)
