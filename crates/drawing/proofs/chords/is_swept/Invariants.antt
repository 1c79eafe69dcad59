use Rattle.std.proofs.Common.{◌≡◌, ◌-◌, [], length, reverse}
use Rattle.drawing.specs.Sweep.{swept}
use Rattle.drawing.proofs.SweepTables.{mate_in}
use Rattle.drawing.proofs.chords.is_swept.Given as goal

-- what is left of the sweep says whether it comes to its end
abbrev pub invariant-loop-at : goal.invariant-loop-at
invariant-loop-at l = swept (mate_in l.mates) (length l.mates - l.at) (reverse l.open.items) l.at ≡ swept (mate_in l.mates) (length l.mates) [] 0
