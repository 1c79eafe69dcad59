use Rattle.witness_check.proofs.BasisStage.{on_good}
use Rattle.witness_check.proofs.HandedOn.{err_on}
use Rattle.witness_check.proofs.basis_stage.joined_stage.Goals as goal

pub returns-clause-passed : goal.returns-clause-passed
returns-clause-passed c = on_good c.basis_stage.result c.basis_stage.ensures.passed (λ passed text words after. passed text words (c.in_ok-seams_stage.ensures.passed text words after))

pub returns-clause-refuted : goal.returns-clause-refuted
returns-clause-refuted c = err_on c.basis_stage.result c.basis_stage.ensures.refuted (λ refusal refuted text words after. refuted text words (c.in_ok-seams_stage.ensures.passed text words after))
