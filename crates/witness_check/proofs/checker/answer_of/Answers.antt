use Rattle.witness_check.proofs.Begins.{begins}
use Rattle.witness_check.proofs.HandedOn.{err_on, ok_on}
use Rattle.witness_check.proofs.checker.answer_of.Goals as goal

pub returns-in-Some-clause-valid : goal.returns-in-Some-clause-valid
returns-in-Some-clause-valid c =
    ok_on c.answered.result c.answered.ensures.valid (λ answer valid. valid c.args.text.now (begins c.args.text.now c.in-Some.lines c.in-Some.ensures.some.0 c.in-Some.ensures.some.1))

pub returns-in-Some-clause-refuted : goal.returns-in-Some-clause-refuted
returns-in-Some-clause-refuted c =
    err_on c.answered.result c.answered.ensures.refuted (λ refusal refuted. refuted c.args.text.now (begins c.args.text.now c.in-Some.lines c.in-Some.ensures.some.0 c.in-Some.ensures.some.1))
