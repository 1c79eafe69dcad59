use Rattle.std.proofs.Common.{◌≡◌, map}
use Rattle.obd_base.specs.Lists.{below}
use Rattle.page_surface.specs.Drawing.{strand_exits}
use Rattle.dehn_twist.proofs.counts.strand_rows.Given as goal

-- the strands so far
abbrev pub invariant-loop-strand : goal.invariant-loop-strand
invariant-loop-strand l = l.rows.items ≡ map (strand_exits l.drawing.drawing) (below l.strand)
