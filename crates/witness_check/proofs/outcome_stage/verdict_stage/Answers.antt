use Rattle.std.proofs.Common.{◌∙◌}
use Rattle.mod2_rank.proofs.GivenVerdict.{rows_of}
use Rattle.witness_check.proofs.HandedOn.{err_of, err_on, ok_on}
use Rattle.witness_check.proofs.OneRule.{held_true}
use Rattle.witness_check.proofs.OutcomeStage.{verdict_passed, verdict_refuted, verdict_unread}
use Rattle.witness_check.proofs.outcome_stage.verdict_stage.Goals as goal

pub returns-in_err-verdict-clause-refuted : goal.returns-in_err-verdict-clause-refuted
returns-in_err-verdict-clause-refuted c =
    err_of _ c.in_err-verdict.field-0.0 c.from_residual.result c.from_residual.ensures.1
    (λ text after. verdict_unread (rows_of c.args.columns.now) c.args.rows text c.args.lines.now after c.in_err-verdict.field-0.0 c.in_err-verdict.ensures.breaks)

pub returns-clause-passed : goal.returns-clause-passed
returns-clause-passed c =
    ok_on c.held.result c.held.ensures.made
    (λ made so text after. verdict_passed (rows_of c.args.columns.now) c.args.rows text c.args.lines.now after c.next_verdict.new.lines c.in_ok-verdict.verdict made c.in_ok-verdict.ensures.read
    (held_true c.is_verdict-tried.result so.1 c.is_verdict-tried.ensures) (so.0 ∙ c.answer_of.ensures))

pub returns-clause-refuted : goal.returns-clause-refuted
returns-clause-refuted c =
    err_on c.held.result c.held.ensures.refused
    (λ refusal untrue text after. verdict_refuted (rows_of c.args.columns.now) c.args.rows text c.args.lines.now after c.next_verdict.new.lines c.in_ok-verdict.verdict c.number-line.result c.is_verdict-tried.result refusal
    c.in_ok-verdict.ensures.read c.number-line.ensures.value c.is_verdict-tried.ensures untrue)
