use Rattle.std.proofs.Common.{◌≡◌, take}
use Rattle.obd_cli.proofs.moves.strands_of.Given as goal

-- the exits of the strands so far
abbrev pub invariant-loop-number : goal.invariant-loop-number
invariant-loop-number l = l.strands ≡ take l.number l.drawing.drawing.strands
