use Rattle.page_surface.specs.Drawing.{points_on}
use Rattle.nice_plan.specs.Counted.{IsEmpty}
use Rattle.nice_plan.proofs.numbers.segment_rows.Given as goal

-- the sides so far
abbrev pub invariant-loop-side : goal.invariant-loop-side
invariant-loop-side l = IsEmpty l.side (points_on l.drawing.drawing) l.rows.items
