use Rattle.std.proofs.Common.{◌≡◌, ◌+◌, ◌≤◌, take}
use Rattle.drawing.specs.Fingers.{AllLegal, replayed}
use Rattle.move_log.proofs.log.Log.replay.Given as goal

-- the fingers so far are legal and carried out, and there is room for the others
abbrev pub invariant-loop-number : goal.invariant-loop-number
invariant-loop-number l = record {
  legal : AllLegal l.fn.drawing.drawing (take l.number l.self.fingers);
  here : l.drawing.drawing ≡ replayed l.fn.drawing.drawing (take l.number l.self.fingers);
  room : l.count ≤ l.drawing.room + l.number;
}
