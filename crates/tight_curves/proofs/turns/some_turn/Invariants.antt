use Rattle.std.proofs.Common.{◌≡◌, ℕ, ◌<◌, false}
use Rattle.tight_curves.specs.Turns.{is_turn_at}
use Rattle.tight_curves.proofs.turns.some_turn.Given as goal

-- no exit so far makes a turn
abbrev pub invariant-loop-at : goal.invariant-loop-at
invariant-loop-at l = (i : ℕ) → i < l.at → is_turn_at l.polygon l.exits l.part i ≡ false
