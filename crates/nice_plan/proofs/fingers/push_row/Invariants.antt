use Rattle.std.proofs.Common.{◌≡◌, ◌+◌, ◌++◌, drop}
use Rattle.nice_plan.specs.Raised.{raised_row}
use Rattle.nice_plan.proofs.fingers.push_row.Given as goal

-- the fingers so far
abbrev pub invariant-loop-entry : goal.invariant-loop-entry
invariant-loop-entry l = record {
  number : l.number ≡ l.chord.chord + l.entry-index;
  fingers : l.fingers.items ++ raised_row l.row l.chord.strand l.number (drop l.entry-index l.raised) ≡ l.fn.fingers.items ++ raised_row l.row l.chord.strand l.chord.chord l.raised;
}
