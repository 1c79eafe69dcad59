use Rattle.mod2_rank.proofs.GivenVerdict.{rows_of}
use Rattle.std.proofs.Common.{sym, subst}
use Rattle.witness_check.specs.Between.{AfterRank}
use Rattle.witness_check.proofs.HandedOn.{err_of, err_on, ok_on}
use Rattle.witness_check.proofs.OneRule.{held_true}
use Rattle.witness_check.proofs.OutcomeStage.{rank_passed, rank_refuted, rank_unread}
use Rattle.witness_check.proofs.outcome_stage.rank_stage.Goals as goal

pub returns-in_err-rank-clause-refuted : goal.returns-in_err-rank-clause-refuted
returns-in_err-rank-clause-refuted c =
    err_of _ c.in_err-rank.field-0.0 c.from_residual.result c.from_residual.ensures.1
    (λ text after. rank_unread (rows_of c.args.columns.now) c.args.reducers.now text c.args.lines.now after c.in_err-rank.field-0.0 c.in_err-rank.ensures.breaks)

pub returns-clause-passed : goal.returns-clause-passed
returns-clause-passed c =
    ok_on c.held.result c.held.ensures.made
    (λ made so text after. subst (λ r. AfterRank (rows_of c.args.columns.now) c.args.reducers.now.rows r text c.next_number.new.lines) (sym so.0)
    (rank_passed (rows_of c.args.columns.now) c.args.reducers.now text c.args.lines.now after c.next_number.new.lines c.in_ok-rank.rank c.in_ok-rank.ensures.read (held_true c.is_rank-tried.result so.1 c.is_rank-tried.ensures)))

pub returns-clause-refuted : goal.returns-clause-refuted
returns-clause-refuted c =
    err_on c.held.result c.held.ensures.refused
    (λ refusal untrue text after. rank_refuted (rows_of c.args.columns.now) c.args.reducers.now text c.args.lines.now after c.next_number.new.lines c.in_ok-rank.rank c.number-line.result c.is_rank-tried.result refusal
    c.in_ok-rank.ensures.read c.number-line.ensures.value c.is_rank-tried.ensures untrue)
