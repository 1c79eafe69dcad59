use Rattle.std.proofs.Common.{◌≡◌, ℕ, take}
use Rattle.drawing.specs.Room.{HaveRoom, rows}
use Rattle.drawing.proofs.layout.widen.Given as goal

-- the lists stay, and the strands so far have room
abbrev pub invariant-loop-strand : goal.invariant-loop-strand
invariant-loop-strand l = record {
  same : rows l.strands ≡ rows l.fn.strands;
  so_far : HaveRoom l.fingers (take l.strand l.strands);
  kept : (room : ℕ) → HaveRoom room l.fn.strands → HaveRoom room l.strands;
}
