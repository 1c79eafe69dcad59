use Rattle.std.proofs.Common.{take}
use Rattle.nice_plan.specs.Counted.{IsCounted}
use Rattle.nice_plan.proofs.numbers.counted.Given as goal

-- the segments so far
abbrev pub invariant-loop-segment : goal.invariant-loop-segment
invariant-loop-segment l = IsCounted l.drawing.drawing (take l.segment-index l.segments) l.rows.items
