use Rattle.std.proofs.Common.{◌∙◌, ap, arith, sym}
use Rattle.drawing.specs.Fingers.{pushed}
use Rattle.drawing.proofs.fingers.Replayed.{replayed_more}
use Rattle.witness_check.specs.declared.checked.Reason.TheVariants.{Finger}
use Rattle.witness_check.proofs.FingerLines.{finger_rule, fingers_kept, fingers_stop, legal_here}
use Rattle.witness_check.proofs.FirstFaults.{all_good, bad_here, fault_at, good_more}
use Rattle.witness_check.proofs.finger_lines.carry_out.Goals as goal

pub returns-then-not-is_legal-clause-fault : goal.returns-then-not-is_legal-clause-fault
returns-then-not-is_legal-clause-fault c =
    let d = c.args.drawing.now.drawing in
    let fs = c.args.fingers.now in
    let f = c.index-fingers-at.result in
    let inv = c.loop-at.invariant in
    fingers_stop d fs (fault_at c.loop-at.at Finger)
    (bad_here (finger_rule d fs) fs c.loop-at.at f c.loop-at-test.true c.index-fingers-at.is inv.legal
    (legal_here d fs c.loop-at.at f c.is_legal.result c.loop-at.drawing.drawing inv.here c.is_legal.ensures ∙ c.if-not-is_legal.true))

pub loop-at-preserved : goal.loop-at-preserved
loop-at-preserved c =
    let d = c.args.drawing.now.drawing in
    let fs = c.args.fingers.now in
    let f = c.index-fingers-at.result in
    let inv = c.loop-at.invariant in
    record {
      legal = good_more (finger_rule d fs) fs c.loop-at.at f c.loop-at-test.true c.index-fingers-at.is inv.legal
          (legal_here d fs c.loop-at.at f c.is_legal.result c.loop-at.drawing.drawing inv.here c.is_legal.ensures ∙ c.if-not-is_legal.false);
      here = c.apply.ensures.value ∙ (ap (λ x. pushed x f) inv.here ∙ sym (replayed_more d fs c.loop-at.at f c.loop-at-test.true c.index-fingers-at.is));
      room = omega (arith, c.apply.ensures.room, inv.room);
    }

pub returns-clause-kept : goal.returns-clause-kept
returns-clause-kept c =
    let d = c.args.drawing.now.drawing in
    let fs = c.args.fingers.now in
    fingers_kept d fs (all_good (finger_rule d fs) fs c.loop-at.at c.loop-at-test.false c.loop-at.invariant.legal)
