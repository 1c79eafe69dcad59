use Rattle.std.proofs.Common.{ap, arith}
use Rattle.mod2_rank.specs.GivenPivots.{Reducing}
use Rattle.mod2_rank.proofs.GivenVerdict.{rows_of}
use Rattle.witness_check.specs.Lines.{pivot_line}
use Rattle.witness_check.proofs.HandedOn.{err_of, err_on, if_ok, lent_rows, of_ok, ok_on}
use Rattle.witness_check.proofs.OutcomeStage.{pivots_passed, pivots_refuted, pivots_uncounted}
use Rattle.witness_check.proofs.Staged.{rows_at_most}
use Rattle.witness_check.proofs.outcome_stage.pivots_stage.Goals as goal

pub returns-in_err-count-clause-refuted : goal.returns-in_err-count-clause-refuted
returns-in_err-count-clause-refuted c =
    err_of _ c.in_err-count.field-0.0 c.from_residual.result c.from_residual.ensures.1
    (λ text after. pivots_uncounted (rows_of c.args.columns.now) c.args.rows text c.args.lines.now after c.next_count.new.lines c.in_err-count.field-0.0 c.in_err-count.ensures.refused)

pub reducers_of-tried-requires-clause-few_pivots : goal.reducers_of-tried-requires-clause-few_pivots
reducers_of-tried-requires-clause-few_pivots c =
    let few = rows_at_most (λ i. pivot_line) c.in_ok-count.count c.next_count.new.lines c.read_rows.new.lines c.as_slice.result.now c.in_ok-pivots.pivots.breaks 0 c.args.rows
    (lent_rows (λ i. pivot_line) c.in_ok-count.count c.next_count.new.lines c.read_rows.new.lines c.in_ok-pivots.pivots.items c.as_slice.result.now c.in_ok-pivots.pivots.breaks c.as_slice.ensures c.in_ok-pivots.ensures)
    c.in_ok-count.ensures.within in
    omega (arith, few, c.ranges.rows.fits)

pub returns-clause-passed : goal.returns-clause-passed
returns-clause-passed c =
    ok_on c.settled.result c.settled.ensures.made
    (λ made so text after. pivots_passed (rows_of c.args.columns.now) c.args.rows text c.args.lines.now after c.next_count.new.lines c.read_rows.new.lines c.in_ok-count.count c.as_slice.result.now c.in_ok-pivots.pivots.breaks
    c.in_ok-count.ensures.read c.in_ok-count.ensures.within
    (lent_rows (λ i. pivot_line) c.in_ok-count.count c.next_count.new.lines c.read_rows.new.lines c.in_ok-pivots.pivots.items c.as_slice.result.now c.in_ok-pivots.pivots.breaks c.as_slice.ensures c.in_ok-pivots.ensures)
    made c.requires.ascend so.1 (of_ok c.reducers_of-tried.result made so.0 c.reducers_of-tried.ensures.kept) (if_ok _ c.reducers_of-tried.result made so.0 c.reducers_of-tried.ensures.value))

pub returns-clause-rows : goal.returns-clause-rows
returns-clause-rows c = ok_on c.settled.result c.settled.ensures.made (λ made so. ap (λ (r : Reducing). r.rows) (if_ok _ c.reducers_of-tried.result made so.0 c.reducers_of-tried.ensures.value))

pub returns-clause-refuted : goal.returns-clause-refuted
returns-clause-refuted c =
    err_on c.settled.result c.settled.ensures.refused
    (λ refusal settles text after. pivots_refuted (rows_of c.args.columns.now) c.args.rows text c.args.lines.now after c.next_count.new.lines c.read_rows.new.lines c.in_ok-count.count c.as_slice.result.now c.in_ok-pivots.pivots.breaks
    c.in_ok-count.ensures.read c.in_ok-count.ensures.within
    (lent_rows (λ i. pivot_line) c.in_ok-count.count c.next_count.new.lines c.read_rows.new.lines c.in_ok-pivots.pivots.items c.as_slice.result.now c.in_ok-pivots.pivots.breaks c.as_slice.ensures c.in_ok-pivots.ensures)
    c.number-first.result c.reducers_of-tried.result refusal c.number-first.ensures.value c.number-first.ensures.few c.reducers_of-tried.ensures.kept c.reducers_of-tried.ensures.fault settles)
