use Rattle.witness_check.proofs.HandedOn.{err_on, ok_on}
use Rattle.witness_check.proofs.drawing_stage.drawing_stage.Goals as goal

pub returns-clause-passed : goal.returns-clause-passed
returns-clause-passed c = ok_on c.with_generators.result c.with_generators.ensures.passed (λ made passed text after. passed text (c.in_ok-last.ensures.passed text after))

pub returns-clause-refuted : goal.returns-clause-refuted
returns-clause-refuted c = err_on c.with_generators.result c.with_generators.ensures.refuted (λ refusal refuted text after. refuted text (c.in_ok-last.ensures.passed text after))
