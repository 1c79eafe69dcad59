use Rattle.witness_check.proofs.HandedOn.{err_on, ok_on}
use Rattle.witness_check.proofs.book_stage.curved_stage.Goals as goal

pub returns-clause-passed : goal.returns-clause-passed
returns-clause-passed c = ok_on c.surface_stage.result c.surface_stage.ensures.passed (λ book passed text after. passed text (c.in_ok-curves.ensures.passed text after))

pub returns-clause-refuted : goal.returns-clause-refuted
returns-clause-refuted c = err_on c.surface_stage.result c.surface_stage.ensures.refuted (λ refusal refuted text after. refuted text (c.in_ok-curves.ensures.passed text after))
