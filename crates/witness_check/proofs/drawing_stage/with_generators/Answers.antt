use Rattle.std.proofs.Common.{length}
use Rattle.witness_check.proofs.GeneratorsStage.{drawing_as, generators_as}
use Rattle.witness_check.proofs.HandedOn.{err_of}
use Rattle.witness_check.proofs.drawing_stage.with_generators.Goals as goal

pub returns-in_err-contact_stage-clause-refuted : goal.returns-in_err-contact_stage-clause-refuted
returns-in_err-contact_stage-clause-refuted c =
    err_of _ c.in_err-contact_stage.field-0.0 c.from_residual-in_err-contact_stage.result c.from_residual-in_err-contact_stage.ensures.1
    (λ text after. c.in_err-contact_stage.ensures.refuted text
    (generators_as c.args.last.diagram c.count.result (length c.in_ok-generators.generators) text c.generators_stage.new.lines c.count.ensures.value (c.in_ok-generators.ensures.passed text after)))

pub returns-clause-passed : goal.returns-clause-passed
returns-clause-passed c text after =
    drawing_as c.args.last.diagram c.count.result (length c.in_ok-generators.generators) text c.contact_stage.new.lines c.count.ensures.value
    (c.in_ok-contact_stage.ensures.passed text
    (generators_as c.args.last.diagram c.count.result (length c.in_ok-generators.generators) text c.generators_stage.new.lines c.count.ensures.value (c.in_ok-generators.ensures.passed text after)))
