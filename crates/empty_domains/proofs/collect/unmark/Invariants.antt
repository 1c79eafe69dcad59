use Rattle.std.proofs.Common.{◌≡◌, ℕ, false, get_or, length, take}
use Rattle.obd_base.specs.Lists.{Mem}
use Rattle.empty_domains.proofs.collect.unmark.Given as goal

-- no mark is left at the pieces so far
abbrev pub invariant-loop-piece : goal.invariant-loop-piece
invariant-loop-piece l = record {
  size : length l.marks ≡ length l.initial.marks;
  here : (piece : ℕ) → Mem piece (take l.piece-index l.found) → get_or l.marks piece false ≡ false;
  elsewhere : (piece : ℕ) → get_or l.initial.marks piece false ≡ false → get_or l.marks piece false ≡ false;
}
