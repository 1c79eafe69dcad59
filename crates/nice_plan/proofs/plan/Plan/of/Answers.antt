use Rattle.std.proofs.Common.{map, ◌∙◌, ap}
use Rattle.page_surface.specs.Drawing.{spot}
use Rattle.finger_move.specs.Glued.{segment_of}
use Rattle.nice_plan.proofs.PathSteps.{path_at}
use Rattle.nice_plan.proofs.plan.Plan.of.Goals as goal

pub returns-clause-segments : goal.returns-clause-segments
returns-clause-segments c =
    let m = c.args.measured.now in
    c.in_ok-segments.ensures
    ∙ ap (map (segment_of m.drawing)) (path_at m c.distance-far.ensures.known c.in-Some.piece c.in-Some.ensures.inner c.in-Some.ensures.chosen c.first_door-door.result.index c.next-first.result c.next-second.result
    c.first_door-door.ensures.before c.next-first.ensures.value c.next-second.ensures.value c.distance-far.result (spot m.drawing c.segment-start.result) c.distance-far.ensures.value c.segment-start.ensures.number)
