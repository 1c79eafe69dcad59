use Rattle.std.proofs.Common.{length}
use Rattle.page_surface.specs.Drawing.{chords, spot}
use Rattle.nice_plan.proofs.PathSteps.{IsSoFar}
use Rattle.nice_plan.proofs.path.path.Given as goal

-- the path so far
abbrev pub invariant-loop-left : goal.invariant-loop-left
invariant-loop-left l = IsSoFar l.measured.drawing l.far (length (chords l.measured.drawing)) (spot l.measured.drawing l.fn.start) l.path.items l.segment l.left

-- the segments that may come
abbrev pub decreases-loop-left : goal.decreases-loop-left
decreases-loop-left l = l.left
