use Rattle.std.proofs.Common.{◌≡◌, ◌++◌, drop, take, length}
use Rattle.nice_plan.specs.Counted.{AreChordsCounted}
use Rattle.nice_plan.specs.Numbers.{burst_fingers, rows_fingers}
use Rattle.nice_plan.proofs.fingers.burst_fingers.Given as goal

-- the rows so far, and their chords
abbrev pub invariant-loop-row : goal.invariant-loop-row
invariant-loop-row l = record {
  rows : l.fingers.items ++ rows_fingers l.drawing.drawing l.segments l.row (take l.row l.chords) (drop l.row l.chords) ≡ burst_fingers l.drawing.drawing l.chords l.segments;
  counted : AreChordsCounted l.drawing.drawing (length l.segments) (take l.row l.chords) l.pushed.items;
}
