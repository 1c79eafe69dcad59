use Rattle.std.proofs.Common.{◌∙◌}
use Rattle.nice_plan.proofs.MeasuredReads.{first_home}
use Rattle.nice_plan.proofs.measured.Measured.first.Goals as goal

pub returns-clause-number : goal.returns-clause-number
returns-clause-number c = c.segment.ensures.number ∙ first_home c.args.self.now c.size.ensures.known c.args.piece c.requires
