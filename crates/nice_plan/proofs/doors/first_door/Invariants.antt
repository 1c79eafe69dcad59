use Rattle.std.proofs.Common.{◌≡◌, suc, ◌-◌, ◌<◌}
use Rattle.region_table.specs.Table.{name_at, region}
use Rattle.nice_plan.specs.Burst.{chord_ending, named_chords}
use Rattle.nice_plan.specs.Measured.{segment_at}
use Rattle.nice_plan.proofs.DoorSteps.{NotYet}
use Rattle.nice_plan.proofs.doors.first_door.Given as goal

-- a chord of the piece, and none of those before it is the door
abbrev pub invariant-loop-piece : goal.invariant-loop-piece
invariant-loop-piece l = record {
  inside : l.door.index < (region l.measured.table l.piece).size;
  chord : l.door.chord ≡ chord_ending (named_chords l.measured.drawing) (segment_at l.measured l.piece l.door.index);
  behind : l.door.behind ≡ name_at l.measured.table (suc (segment_at l.measured l.piece l.door.index));
  not_yet : NotYet l.measured l.piece l.door.index;
}

-- the chords that are left
abbrev pub decreases-loop-piece : goal.decreases-loop-piece
decreases-loop-piece l = (region l.measured.table l.piece).size - l.door.index
