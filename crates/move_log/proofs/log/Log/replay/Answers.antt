use Rattle.std.proofs.Common.{◌∙◌, ap, arith, subst, sym}
use Rattle.std.proofs.lemmas.Bool.{false≢true}
use Rattle.std.proofs.lemmas.List.{take_all}
use Rattle.drawing.specs.Fingers.{AllLegal, IsLegal, pushed}
use Rattle.drawing.proofs.fingers.Replayed.{legal_more, replayed_more}
use Rattle.move_log.proofs.Replays.{none_refused, refused_exactly}
use Rattle.move_log.proofs.log.Log.replay.Goals as goal

pub loop-number-preserved : goal.loop-number-preserved
loop-number-preserved c =
    let inv = c.loop-number.invariant in
    let f = c.item-finger.result.now in
    let fs = c.args.self.now.fingers in
    let d = c.args.drawing.now.drawing in
    let legal = subst (λ x. IsLegal x f) inv.here (c.is_legal.ensures.0 c.if-not-is_legal.false) in
    record {
      legal = legal_more d fs _ f (omega (arith, c.loop-number-test.true, c.len-count.ensures)) c.item-finger.ensures inv.legal legal;
      here = c.apply.ensures.value ∙ (ap (λ x. pushed x f) inv.here ∙ sym (replayed_more d fs _ f (omega (arith, c.loop-number-test.true, c.len-count.ensures)) c.item-finger.ensures));
      room = omega (arith, c.apply.ensures.room, inv.room);
    }

pub returns-then-not-is_legal-clause-refused : goal.returns-then-not-is_legal-clause-refused
returns-then-not-is_legal-clause-refused c =
    let inv = c.loop-number.invariant in
    let f = c.item-finger.result.now in (
      record {
        finger = f;
        there = omega (arith, c.loop-number-test.true, c.len-count.ensures);
        stands_there = c.item-finger.ensures;
        legal_before = inv.legal;
        illegal = λ legal. false≢true (sym c.if-not-is_legal.true ∙ c.is_legal.ensures.1 (subst (λ x. IsLegal x f) (sym inv.here) legal));
      },
      inv.here,
    )

pub returns-then-not-is_legal-clause-exact : goal.returns-then-not-is_legal-clause-exact
returns-then-not-is_legal-clause-exact c = λ number memory.
    refused_exactly c.args.drawing.now.drawing c.args.self.now.fingers c.loop-number.number number (returns-then-not-is_legal-clause-refused c).0

pub returns-clause-exact : goal.returns-clause-exact
returns-clause-exact c = λ number memory.
    let fs = c.args.self.now.fingers in
    let all = take_all c.loop-number.number fs (omega (arith, c.loop-number-test.false, c.len-count.ensures)) in
    none_refused c.args.drawing.now.drawing fs _ number (subst (AllLegal c.args.drawing.now.drawing) all c.loop-number.invariant.legal)
