use Rattle.std.proofs.Common.{◌≡◌, ◌≤◌, ◌∙◌, false, map, length, ap, arith, subst, sym}
use Rattle.std.specs.Prelude.{IfSome}
use Rattle.page_surface.specs.Polygon.{sides}
use Rattle.finger_move.specs.Glued.{segment_of}
use Rattle.region_table.specs.Nice.{is_nice}
use Rattle.nice_plan.specs.declared.plan.Plan.{Plan}
use Rattle.nice_plan.specs.Burst.{doors, path}
use Rattle.nice_plan.proofs.Applied.{budget_parts}
use Rattle.nice_plan.proofs.PlanSteps.{burst_size, chords_few, doors_few, path_few}
use Rattle.nice_plan.proofs.bursts.next_within.Goals as goal

pub fingers_of-requires-clause-bad : goal.fingers_of-requires-clause-bad
fingers_of-requires-clause-bad c = subst (λ o. IfSome o (λ (p : Plan). is_nice c.args.drawing.now.drawing ≡ false)) c.in-Some.is c.in_ok-plan.ensures.bad

pub fingers_of-requires-clause-chords : goal.fingers_of-requires-clause-chords
fingers_of-requires-clause-chords c = subst (λ o. IfSome o (λ (p : Plan). p.chords.items ≡ doors c.args.drawing.now.drawing)) c.in-Some.is c.in_ok-plan.ensures.chords

pub fingers_of-requires-clause-segments : goal.fingers_of-requires-clause-segments
fingers_of-requires-clause-segments c =
    let d = c.args.drawing.now.drawing in
    subst (λ o. IfSome o (λ (p : Plan). p.segments.items ≡ map (segment_of d) (path d))) c.in-Some.is c.in_ok-plan.ensures.segments

pub length-count-requires-clause-chords : goal.length-count-requires-clause-chords
length-count-requires-clause-chords c =
    let d = c.args.drawing.now.drawing in
    let bad : is_nice d ≡ false = subst (λ o. IfSome o (λ (p : Plan). is_nice d ≡ false)) c.in-Some.is c.in_ok-plan.ensures.bad in
    let chords = subst (λ o. IfSome o (λ (p : Plan). p.chords.items ≡ doors d)) c.in-Some.is c.in_ok-plan.ensures.chords in
    let sides_few : sides d.polygon ≤ 16 = omega (arith, c.sides.ensures.value, c.sides.ensures.most, ap sides c.polygon.ensures) in
    omega (arith, doors_few d c.points.ensures.valid bad _ chords, chords_few d c.points.ensures.valid sides_few (omega (arith, c.points.ensures.value, c.points.ensures.few)))

pub length-count-requires-clause-segments : goal.length-count-requires-clause-segments
length-count-requires-clause-segments c =
    let d = c.args.drawing.now.drawing in
    let bad : is_nice d ≡ false = subst (λ o. IfSome o (λ (p : Plan). is_nice d ≡ false)) c.in-Some.is c.in_ok-plan.ensures.bad in
    let segments = subst (λ o. IfSome o (λ (p : Plan). p.segments.items ≡ map (segment_of d) (path d))) c.in-Some.is c.in_ok-plan.ensures.segments in
    let sides_few : sides d.polygon ≤ 16 = omega (arith, c.sides.ensures.value, c.sides.ensures.most, ap sides c.polygon.ensures) in
    omega (arith, path_few d c.points.ensures.valid bad _ segments, chords_few d c.points.ensures.valid sides_few (omega (arith, c.points.ensures.value, c.points.ensures.few)))

pub fingers_of-requires-clause-few : goal.fingers_of-requires-clause-few
fingers_of-requires-clause-few c =
    let d = c.args.drawing.now.drawing in
    let chords = subst (λ o. IfSome o (λ (p : Plan). p.chords.items ≡ doors d)) c.in-Some.is c.in_ok-plan.ensures.chords in
    let segments = subst (λ o. IfSome o (λ (p : Plan). p.segments.items ≡ map (segment_of d) (path d))) c.in-Some.is c.in_ok-plan.ensures.segments in
    omega (arith, burst_size d _ _ chords segments, c.length-count.ensures, c.if-count-room.false, c.from-room.ensures, c.requires.few)

pub returns-clause-within : goal.returns-clause-within
returns-clause-within c =
    let d = c.args.drawing.now.drawing in
    let chords = subst (λ o. IfSome o (λ (p : Plan). p.chords.items ≡ doors d)) c.in-Some.is c.in_ok-plan.ensures.chords in
    let segments = subst (λ o. IfSome o (λ (p : Plan). p.segments.items ≡ map (segment_of d) (path d))) c.in-Some.is c.in_ok-plan.ensures.segments in
    omega (arith, burst_size d _ _ chords segments, c.length-count.ensures, c.if-count-room.false, c.from-room.ensures, ap length c.in_ok-fingers.ensures)

pub returns-then-count-room-clause-budget : goal.returns-then-count-room-clause-budget
returns-then-count-room-clause-budget c = λ n w is.
    let d = c.args.drawing.now.drawing in
    let bad : is_nice d ≡ false = subst (λ o. IfSome o (λ (p : Plan). is_nice d ≡ false)) c.in-Some.is c.in_ok-plan.ensures.bad in
    let chords = subst (λ o. IfSome o (λ (p : Plan). p.chords.items ≡ doors d)) c.in-Some.is c.in_ok-plan.ensures.chords in
    let segments = subst (λ o. IfSome o (λ (p : Plan). p.segments.items ≡ map (segment_of d) (path d))) c.in-Some.is c.in_ok-plan.ensures.segments in
    let (limit_is, weight_is) = budget_parts c.args.limit n c.weight-weight.result w is in (
      sym limit_is,
      bad,
      omega (arith, burst_size d _ _ chords segments, c.length-count.ensures, c.if-count-room.true, c.from-room.ensures),
      sym weight_is ∙ c.weight-weight.ensures.value d c.requires.table c.requires.distances,
    )
