use Rattle.std.proofs.Common.{◌≡◌, ◌+◌, ◌≤◌, length, take}
use Rattle.drawing.specs.Fingers.{replayed}
use Rattle.region_table.specs.Changed.{KeepsAllNames}
use Rattle.region_table.specs.Table.{IsTableOf}
use Rattle.nice_plan.proofs.bursts.push_all.Given as goal

-- the fingers so far are pushed, the table is brought up to date, and there is room for the others
abbrev pub invariant-loop-finger : goal.invariant-loop-finger
invariant-loop-finger l = record {
  here : l.drawing.drawing ≡ replayed l.fn.drawing.drawing (take l.finger-index l.fingers);
  table : IsTableOf l.drawing.drawing l.regions;
  names : KeepsAllNames l.fn.drawing.drawing (take l.finger-index l.fingers) l.fn.regions l.regions;
  room : length l.fingers ≤ l.drawing.room + l.finger-index;
  table_room : length l.fingers ≤ l.regions.room + l.finger-index;
}
