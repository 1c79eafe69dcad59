use Rattle.std.proofs.Common.{length}
use Rattle.tight_curves.specs.Turns.{IsLoosened}
use Rattle.tight_curves.proofs.turns.take_turns_out.Given as goal

-- the part so far comes from the first one
abbrev pub invariant-loop-at : goal.invariant-loop-at
invariant-loop-at l = IsLoosened l.polygon l.exits l.initial.part.items l.part.items

-- each turn leaves fewer exits
abbrev pub decreases-loop-at : goal.decreases-loop-at
decreases-loop-at l = length l.part.items
