use Rattle.std.proofs.Common.{◌≡◌, ℕ, false, get_or, length, take}
use Rattle.empty_domains.specs.Targets.{AreLed}
use Rattle.empty_domains.proofs.targets.targets_of.Given as goal

-- the targets of the steps so far, and no mark is left
abbrev pub invariant-loop-step : goal.invariant-loop-step
invariant-loop-step l = record {
  led : AreLed l.diagram l.y l.generators (take l.step-index l.steps) l.targets.items;
  size : length l.marks.items ≡ length l.pieces;
  unmarked : (piece : ℕ) → get_or l.marks.items piece false ≡ false;
}
