use Rattle.std.proofs.Common.{ap, arith, length, subst}
use Rattle.tight_curves.specs.Closed.{HasNoCyclicPair, word_of}
use Rattle.tight_curves.specs.Turns.{IsTurnAt}
use Rattle.tight_curves.proofs.TurnSteps.{loosened_more, loosened_none, two_less}
use Rattle.tight_curves.proofs.turns.take_turns_out.Goals as goal

pub loop-at-init : goal.loop-at-init
loop-at-init c = loosened_none c.args.polygon.now c.requires.valid c.args.exits.now c.requires.curve c.args.part.now.items c.requires.part

pub loop-at-smaller : goal.loop-at-smaller
loop-at-smaller c =
    let turn = subst (λ s. IsTurnAt c.args.polygon.now c.args.exits.now s c.in-Some.at) c.deref.ensures.value c.in-Some.ensures.found in
    omega (arith, two_less c.args.polygon.now c.requires.valid c.args.exits.now c.requires.curve c.loop-at.part.items c.in-Some.at turn, ap length c.take_out.ensures)

pub loop-at-preserved : goal.loop-at-preserved
loop-at-preserved c =
    loosened_more c.args.polygon.now c.requires.valid c.args.exits.now c.requires.curve c.args.part.now.items c.loop-at.part.items c.take_out.new.part.items c.in-Some.at c.loop-at.invariant
    (subst (λ s. IsTurnAt c.args.polygon.now c.args.exits.now s c.in-Some.at) c.deref.ensures.value c.in-Some.ensures.found) c.take_out.ensures

pub returns-clause-free : goal.returns-clause-free
returns-clause-free c = subst (λ s. HasNoCyclicPair c.args.polygon.now (word_of s)) c.deref.ensures.value c.in_default.ensures.none
