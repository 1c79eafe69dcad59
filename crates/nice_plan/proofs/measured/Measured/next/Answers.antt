use Rattle.std.proofs.Common.{inl, inr, arith}
use Rattle.nice_plan.proofs.PathSteps.{onward}
use Rattle.nice_plan.proofs.measured.Measured.next.Goals as goal

pub returns-then-index-size-clause-value : goal.returns-then-index-size-clause-value
returns-then-index-size-clause-value c =
    onward c.args.self.now c.size-size.ensures.known c.args.piece c.requires.piece c.args.index c.requires.index _ (inl (omega (arith, c.if-index-size.true, c.size-size.ensures.value), omega arith))

pub returns-else-index-size-clause-value : goal.returns-else-index-size-clause-value
returns-else-index-size-clause-value c =
    onward c.args.self.now c.size-size.ensures.known c.args.piece c.requires.piece c.args.index c.requires.index _ (inr (omega (arith, c.if-index-size.false, c.size-size.ensures.value), omega arith))
