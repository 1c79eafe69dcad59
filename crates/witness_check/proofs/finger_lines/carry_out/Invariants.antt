use Rattle.std.proofs.Common.{◌≡◌, ◌+◌, ◌≤◌, length, take, None}
use Rattle.drawing.specs.Fingers.{replayed}
use Rattle.witness_check.specs.Checked.{first_fault}
use Rattle.witness_check.specs.Rules.{each}
use Rattle.witness_check.proofs.FingerLines.{finger_rule}
use Rattle.witness_check.proofs.FirstFaults.{own_rules}
use Rattle.witness_check.proofs.finger_lines.carry_out.Given as goal

-- the fingers so far are legal and carried out, and there is room for the others
abbrev pub invariant-loop-at : goal.invariant-loop-at
invariant-loop-at l = record {
  legal : first_fault (each (own_rules (finger_rule l.fn.drawing.drawing l.fingers)) (take l.at l.fingers)) ≡ None;
  here : l.drawing.drawing ≡ replayed l.fn.drawing.drawing (take l.at l.fingers);
  room : length l.fingers ≤ l.drawing.room + l.at;
}
