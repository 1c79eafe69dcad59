use Rattle.std.proofs.Common.{◌≡◌, ◌++◌}
use Rattle.std.specs.List.{flat_map}
use Rattle.obd_base.specs.Lists.{below}
use Rattle.dehn_twist.specs.Tables.{loop_met, point_met, ring_at}
use Rattle.dehn_twist.proofs.loops.put_loops.Given as goal

-- the loops at the points so far
abbrev pub invariant-loop-step : goal.invariant-loop-step
invariant-loop-step l =
    l.row.items ≡ l.fn.row.items ++ flat_map (λ i. loop_met l.meetings.drawing l.meetings.curve l.sign l.chord (ring_at l.meetings.drawing.polygon l.meetings.curve (point_met l.meetings.drawing.polygon l.meetings.curve l.chord i))) (below l.step)
