use Rattle.region_table.specs.Table.{region}
use Rattle.nice_plan.proofs.DoorsLeft.{AreFound}
use Rattle.nice_plan.proofs.doors.doors.Given as goal

-- the doors so far
abbrev pub invariant-loop-piece : goal.invariant-loop-piece
invariant-loop-piece l = AreFound l.measured l.fn.from l.doors.items l.piece

-- each piece is nearer
abbrev pub decreases-loop-piece : goal.decreases-loop-piece
decreases-loop-piece l = (region l.measured.table l.piece).distance
