use Rattle.std.proofs.Common.{◌≡◌, ◌∙◌}
use Rattle.std.proofs.lemmas.Result.{IfOk-weaker}
use Rattle.nice_plan.specs.Burst.{burst}
use Rattle.nice_plan.specs.Numbers.{burst_fingers}
use Rattle.nice_plan.proofs.NextBurst.{burst_is}
use Rattle.nice_plan.proofs.PlanSteps.{burst_few, doors_on, doors_some, path_on, path_some}
use Rattle.nice_plan.proofs.next.fingers_of.Goals as goal

pub burst_fingers-requires-clause-there : goal.burst_fingers-requires-clause-there
burst_fingers-requires-clause-there c = path_on c.args.drawing.now.drawing c.points.ensures.valid c.requires.bad c.deref-2.result.now (c.deref-2.ensures.value ∙ c.requires.segments)

pub burst_fingers-requires-clause-chords : goal.burst_fingers-requires-clause-chords
burst_fingers-requires-clause-chords c = doors_on c.args.drawing.now.drawing c.points.ensures.valid c.requires.bad c.deref.result.now (c.deref.ensures.value ∙ c.requires.chords)

pub burst_fingers-requires-clause-some_chords : goal.burst_fingers-requires-clause-some_chords
burst_fingers-requires-clause-some_chords c = doors_some c.args.drawing.now.drawing c.points.ensures.valid c.requires.bad c.deref.result.now (c.deref.ensures.value ∙ c.requires.chords)

pub burst_fingers-requires-clause-some_segments : goal.burst_fingers-requires-clause-some_segments
burst_fingers-requires-clause-some_segments c = path_some c.args.drawing.now.drawing c.points.ensures.valid c.requires.bad c.deref-2.result.now (c.deref-2.ensures.value ∙ c.requires.segments)

pub burst_fingers-requires-clause-few : goal.burst_fingers-requires-clause-few
burst_fingers-requires-clause-few c =
    burst_few c.args.drawing.now.drawing c.points.ensures.valid c.requires.bad c.deref.result.now c.deref-2.result.now (c.deref.ensures.value ∙ c.requires.chords) (c.deref-2.ensures.value ∙ c.requires.segments) c.requires.few

pub returns : goal.returns
returns c =
    let d = c.args.drawing.now.drawing in
    IfOk-weaker c.burst_fingers.result (λ f. f.items ≡ burst_fingers d c.deref.result.now c.deref-2.result.now) (λ f. f.items ≡ burst d)
    (λ f is. burst_is d c.points.ensures.valid c.requires.bad c.deref.result.now c.deref-2.result.now f.items (c.deref.ensures.value ∙ c.requires.chords) (c.deref-2.ensures.value ∙ c.requires.segments) is)
    c.burst_fingers.ensures
