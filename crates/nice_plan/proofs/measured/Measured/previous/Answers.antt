use Rattle.std.proofs.Common.{inl, inr, arith}
use Rattle.nice_plan.proofs.PathSteps.{backward}
use Rattle.nice_plan.proofs.measured.Measured.previous.Goals as goal

pub returns-then-index-gt0-clause-value : goal.returns-then-index-gt0-clause-value
returns-then-index-gt0-clause-value c =
    backward c.args.self.now c.size-size.ensures.known c.args.piece c.requires.piece c.args.index c.requires.index _ (inl (omega (arith, c.if-index-gt0.true), omega (arith, c.if-index-gt0.true)))

pub returns-else-index-gt0-clause-value : goal.returns-else-index-gt0-clause-value
returns-else-index-gt0-clause-value c =
    backward c.args.self.now c.size-size.ensures.known c.args.piece c.requires.piece c.args.index c.requires.index _
    (inr (omega (arith, c.if-index-gt0.false), omega (arith, c.if-index-gt0.false, c.size-size.ensures.value, c.size-size.ensures.some)))
