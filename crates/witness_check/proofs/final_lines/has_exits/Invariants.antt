use Rattle.std.proofs.Common.{◌≡◌, take}
use Rattle.page_surface.specs.Drawing.{strand_exits}
use Rattle.witness_check.proofs.final_lines.has_exits.Given as goal

-- the exits so far are the strand's
abbrev pub invariant-loop-chord : goal.invariant-loop-chord
invariant-loop-chord l = take l.chord l.exits ≡ take l.chord (strand_exits l.drawing.drawing l.strand)
