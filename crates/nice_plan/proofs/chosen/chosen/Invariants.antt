use Rattle.std.proofs.Common.{take}
use Rattle.nice_plan.proofs.ChosenSteps.{IsBest}
use Rattle.nice_plan.proofs.chosen.chosen.Given as goal

-- the best so far
abbrev pub invariant-loop-piece : goal.invariant-loop-piece
invariant-loop-piece l = IsBest l.measured (take l.piece-index l.inner) l.chosen
