use Rattle.std.proofs.Common.{◌≤◌, drop, length}
use Rattle.drawing.specs.Counted.{IsFilled}
use Rattle.drawing.specs.Round.{other_end}
use Rattle.region_table.proofs.mates.mates.Given as goal

-- the mates of the chords read so far
abbrev pub invariant-loop-left : goal.invariant-loop-left
invariant-loop-left l = record {
  within : l.left ≤ length l.chords;
  filled : IsFilled (λ x. other_end (drop l.left l.chords) x) l.count l.mates.items;
}

-- the chords not yet read
abbrev pub decreases-loop-left : goal.decreases-loop-left
decreases-loop-left l = l.left
