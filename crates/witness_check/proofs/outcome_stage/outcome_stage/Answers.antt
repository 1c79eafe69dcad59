use Rattle.mod2_rank.proofs.GivenVerdict.{rows_of}
use Rattle.witness_check.proofs.HandedOn.{err_of, err_on, ok_on}
use Rattle.witness_check.proofs.outcome_stage.outcome_stage.Goals as goal

pub returns-in_err-homology_stage-clause-refuted : goal.returns-in_err-homology_stage-clause-refuted
returns-in_err-homology_stage-clause-refuted c =
    err_of _ c.in_err-homology_stage.field-0.0 c.from_residual-in_err-homology_stage.result c.from_residual-in_err-homology_stage.ensures.1
    (λ text after. c.in_err-homology_stage.ensures.refuted (rows_of c.args.columns.now) text (c.in_ok-rank.ensures.passed text after))

pub returns-clause-passed : goal.returns-clause-passed
returns-clause-passed c =
    ok_on c.answered.result c.answered.ensures.passed (λ answer passed text after. passed text (c.in_ok-homology_stage.ensures.passed (rows_of c.args.columns.now) text (c.in_ok-rank.ensures.passed text after)))

pub returns-clause-refuted : goal.returns-clause-refuted
returns-clause-refuted c =
    err_on c.answered.result c.answered.ensures.refuted (λ refusal refuted text after. refuted text (c.in_ok-homology_stage.ensures.passed (rows_of c.args.columns.now) text (c.in_ok-rank.ensures.passed text after)))
