use Rattle.std.proofs.Common.{◌≡◌, false, map, subst}
use Rattle.std.specs.Prelude.{IfSome}
use Rattle.finger_move.specs.Glued.{segment_of}
use Rattle.region_table.specs.Nice.{is_nice}
use Rattle.nice_plan.specs.declared.plan.Plan.{Plan}
use Rattle.nice_plan.specs.Burst.{doors, path}
use Rattle.nice_plan.proofs.NextBurst.{next_is, next_legal, next_lowers}
use Rattle.nice_plan.proofs.next.burst.Goals as goal

pub fingers_of-requires-clause-bad : goal.fingers_of-requires-clause-bad
fingers_of-requires-clause-bad c = subst (λ o. IfSome o (λ (p : Plan). is_nice c.args.drawing.now.drawing ≡ false)) c.in-Some.is c.in_ok-plan.ensures.bad

pub fingers_of-requires-clause-chords : goal.fingers_of-requires-clause-chords
fingers_of-requires-clause-chords c = subst (λ o. IfSome o (λ (p : Plan). p.chords.items ≡ doors c.args.drawing.now.drawing)) c.in-Some.is c.in_ok-plan.ensures.chords

pub fingers_of-requires-clause-segments : goal.fingers_of-requires-clause-segments
fingers_of-requires-clause-segments c =
    let d = c.args.drawing.now.drawing in
    subst (λ o. IfSome o (λ (p : Plan). p.segments.items ≡ map (segment_of d) (path d))) c.in-Some.is c.in_ok-plan.ensures.segments

pub fingers_of-requires-clause-few : goal.fingers_of-requires-clause-few
fingers_of-requires-clause-few c = c.requires.few (fingers_of-requires-clause-bad c)

pub returns-clause-burst : goal.returns-clause-burst
returns-clause-burst c =
    let d = c.args.drawing.now.drawing in
    let bad : is_nice d ≡ false = subst (λ o. IfSome o (λ (p : Plan). is_nice d ≡ false)) c.in-Some.is c.in_ok-plan.ensures.bad in
    next_is d bad c.in_ok-fingers.fingers.items c.in_ok-fingers.ensures

pub returns-clause-legal : goal.returns-clause-legal
returns-clause-legal c =
    let d = c.args.drawing.now.drawing in
    let bad : is_nice d ≡ false = subst (λ o. IfSome o (λ (p : Plan). is_nice d ≡ false)) c.in-Some.is c.in_ok-plan.ensures.bad in
    next_legal d c.points.ensures.valid bad c.in_ok-fingers.fingers.items c.in_ok-fingers.ensures

pub returns-clause-lowers : goal.returns-clause-lowers
returns-clause-lowers c =
    let d = c.args.drawing.now.drawing in
    let bad : is_nice d ≡ false = subst (λ o. IfSome o (λ (p : Plan). is_nice d ≡ false)) c.in-Some.is c.in_ok-plan.ensures.bad in
    next_lowers d c.points.ensures.valid bad c.in_ok-fingers.fingers.items c.in_ok-fingers.ensures
