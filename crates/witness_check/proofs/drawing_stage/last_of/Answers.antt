use Rattle.witness_check.proofs.HandedOn.{err_of, err_on, ok_on}
use Rattle.witness_check.proofs.drawing_stage.last_of.Goals as goal

pub returns-in_err-moved-clause-refuted : goal.returns-in_err-moved-clause-refuted
returns-in_err-moved-clause-refuted c =
    err_of _ c.in_err-moved.field-0.0 c.from_residual-in_err-moved.result c.from_residual-in_err-moved.ensures.1
    (λ text after. c.in_err-moved.ensures.refuted text (c.in_ok-drawn.ensures.passed text after))

pub returns-clause-passed : goal.returns-clause-passed
returns-clause-passed c =
    ok_on c.finals_stage.result c.finals_stage.ensures.passed (λ last passed text after. passed text (c.in_ok-moved.ensures.passed text (c.in_ok-drawn.ensures.passed text after)))

pub returns-clause-refuted : goal.returns-clause-refuted
returns-clause-refuted c =
    err_on c.finals_stage.result c.finals_stage.ensures.refuted (λ refusal refuted text after. refuted text (c.in_ok-moved.ensures.passed text (c.in_ok-drawn.ensures.passed text after)))
