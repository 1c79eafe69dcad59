use Rattle.std.proofs.Common.{◌≡◌, map}
use Rattle.obd_base.specs.Lists.{below}
use Rattle.dehn_twist.specs.Tables.{surgery_row}
use Rattle.dehn_twist.proofs.surgery.strand_rows.Given as goal

-- the rows of the strands so far
abbrev pub invariant-loop-strand : goal.invariant-loop-strand
invariant-loop-strand l = l.rows.items ≡ map (surgery_row l.meetings.drawing l.meetings.curve l.sign) (below l.strand)
