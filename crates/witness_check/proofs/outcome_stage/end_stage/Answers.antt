use Rattle.witness_check.proofs.HandedOn.{err_of, err_on}
use Rattle.witness_check.proofs.OneRule.{ended, followed, on_then, unended}
use Rattle.witness_check.proofs.outcome_stage.end_stage.Goals as goal

pub returns-in_err-next_end-clause-refuted : goal.returns-in_err-next_end-clause-refuted
returns-in_err-next_end-clause-refuted c =
    err_of _ c.in_err-next_end.field-0.0 c.from_residual.result c.from_residual.ensures.1
    (λ answer text after. unended answer text c.args.lines.now after c.in_err-next_end.field-0.0 c.in_err-next_end.ensures.breaks)

pub returns-clause-passed : goal.returns-clause-passed
returns-clause-passed c =
    on_then c.no_more.result c.no_more.ensures.none (λ last answer text after. ended answer text c.args.lines.now after c.next_end.new.lines c.in_ok-next_end.ensures.read last)

pub returns-clause-refuted : goal.returns-clause-refuted
returns-clause-refuted c =
    err_on c.no_more.result c.no_more.ensures.more (λ refusal follows answer text after. followed answer text c.args.lines.now after c.next_end.new.lines refusal c.in_ok-next_end.ensures.read follows)
