use Rattle.witness_check.proofs.HandedOn.{err_on, ok_on}
use Rattle.witness_check.proofs.checker.answered.Goals as goal

pub returns-clause-valid : goal.returns-clause-valid
returns-clause-valid c = ok_on c.decided.result c.decided.ensures.valid (λ answer valid text after. valid text (c.in_ok-drawn.ensures.passed text after))

pub returns-clause-refuted : goal.returns-clause-refuted
returns-clause-refuted c = err_on c.decided.result c.decided.ensures.refuted (λ refusal refuted text after. refuted text (c.in_ok-drawn.ensures.passed text after))
