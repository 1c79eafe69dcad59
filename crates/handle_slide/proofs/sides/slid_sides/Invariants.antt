use Rattle.std.proofs.Common.{◌≡◌}
use Rattle.handle_slide.proofs.SideTables.{order_so_far}
use Rattle.handle_slide.proofs.sides.slid_sides.Given as goal

-- the sides so far
abbrev pub invariant-loop-offset : goal.invariant-loop-offset
invariant-loop-offset l = l.order.items ≡ order_so_far l.polygon l.side l.offset
