use Rattle.std.proofs.Common.{◌≡◌, [], ◌++◌, drop, take}
use Rattle.nice_plan.specs.Counted.{IsCounted}
use Rattle.nice_plan.specs.Raised.{raised_from}
use Rattle.nice_plan.proofs.fingers.with_sums.Given as goal

-- the segments so far
abbrev pub invariant-loop-segment : goal.invariant-loop-segment
invariant-loop-segment l = record {
  raised : l.raised.items ++ raised_from l.drawing.drawing l.path (take l.segment-index l.path) (drop l.segment-index l.path) ≡ raised_from l.drawing.drawing l.path [] l.path;
  counted : IsCounted l.drawing.drawing (take l.segment-index l.path) l.before.items;
}
