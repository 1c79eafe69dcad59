use Rattle.std.proofs.Common.{◌≡◌, ℕ, false, get_or, length, take}
use Rattle.empty_domains.specs.Found.{AreFound}
use Rattle.empty_domains.proofs.domains.domains_of.Given as goal

-- the domains of the steps so far, and no mark is left
abbrev pub invariant-loop-step : goal.invariant-loop-step
invariant-loop-step l = record {
  led : AreFound l.diagram l.y l.generators (take l.step-index l.steps) l.domains.items;
  size : length l.marks.items ≡ length l.pieces;
  unmarked : (piece : ℕ) → get_or l.marks.items piece false ≡ false;
}
