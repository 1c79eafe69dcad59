use Rattle.std.proofs.Common.{◌≡◌, take}
use Rattle.page_surface.specs.Drawing.{words}
use Rattle.monodromy.proofs.compare.has_words.Given as goal

-- the words of the strands so far are these
abbrev pub invariant-loop-strand : goal.invariant-loop-strand
invariant-loop-strand l = take l.strand (words l.drawing.drawing) ≡ take l.strand l.wanted
