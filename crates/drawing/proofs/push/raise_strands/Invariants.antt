use Rattle.std.proofs.Common.{◌≡◌, ℕ, ◌++◌, drop, map, take}
use Rattle.drawing.specs.PushTables.{raised}
use Rattle.drawing.specs.Room.{HaveRoom, rows}
use Rattle.drawing.proofs.push.raise_strands.Given as goal

-- the strands so far are moved, and the others as they were
abbrev pub invariant-loop-strand : goal.invariant-loop-strand
invariant-loop-strand l = record {
  moved : rows l.strands ≡ map (map (raised l.near l.far)) (take l.strand (rows l.fn.strands)) ++ drop l.strand (rows l.fn.strands);
  room : (room : ℕ) → HaveRoom room l.fn.strands → HaveRoom room l.strands;
}
