use Rattle.std.proofs.Common.{arith}
use Rattle.drawing.proofs.tight.Tightened.{loosened_then, tight_loosened, tight_words}
use Rattle.drawing.proofs.drawing.Drawing.tighten.Goals as goal

pub loop-turns-preserved : goal.loop-turns-preserved
loop-turns-preserved c = record {
  loosened = loosened_then _ _ _ c.loop-turns.invariant.loosened c.take_turns-turns-in-loop-turns.ensures.loosened;
  tight = c.take_turns-turns-in-loop-turns.ensures.tight;
}

pub returns-clause-words : goal.returns-clause-words
returns-clause-words c =
    tight_words c.args.self.now.drawing c.loop-turns.self.drawing c.take_turns-turns.ensures.valid c.loop-turns.invariant.loosened (c.loop-turns.invariant.tight (omega (arith, c.loop-turns-test.false)))

pub returns-clause-tight : goal.returns-clause-tight
returns-clause-tight c = c.loop-turns.invariant.tight (omega (arith, c.loop-turns-test.false))

pub returns-clause-drawing : goal.returns-clause-drawing
returns-clause-drawing c =
    tight_loosened c.args.self.now.drawing c.loop-turns.self.drawing c.take_turns-turns.ensures.valid c.loop-turns.invariant.loosened (c.loop-turns.invariant.tight (omega (arith, c.loop-turns-test.false)))
