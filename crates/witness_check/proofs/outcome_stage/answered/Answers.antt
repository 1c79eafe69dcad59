use Rattle.witness_check.proofs.HandedOn.{err_of}
use Rattle.witness_check.proofs.outcome_stage.answered.Goals as goal

pub returns-in_err-end_stage-clause-refuted : goal.returns-in_err-end_stage-clause-refuted
returns-in_err-end_stage-clause-refuted c =
    err_of _ c.in_err-end_stage.field-0.0 c.from_residual-in_err-end_stage.result c.from_residual-in_err-end_stage.ensures.1
    (λ text after. c.in_err-end_stage.ensures.refuted c.in_ok-answer.answer text (c.in_ok-answer.ensures.passed text after))

pub returns-clause-passed : goal.returns-clause-passed
returns-clause-passed c = λ text after. c.in_ok-end_stage.ensures.passed c.in_ok-answer.answer text (c.in_ok-answer.ensures.passed text after)
