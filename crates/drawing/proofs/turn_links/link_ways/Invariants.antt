use Rattle.std.proofs.Common.{◌<◌, ℕ, [], get_or}
use Rattle.drawing.specs.Links.{AreLinked, exit_gone}
use Rattle.drawing.specs.ThinTables.{is_gone}
use Rattle.drawing.proofs.turn_links.link_ways.Given as goal

-- the strands so far are linked
abbrev pub invariant-loop-strand : goal.invariant-loop-strand
invariant-loop-strand l = (i : ℕ) → i < l.strand → AreLinked (exit_gone l.layout.drawing (is_gone l.gone) i) (get_or l.ways i [])
