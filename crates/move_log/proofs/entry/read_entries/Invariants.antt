use Rattle.std.proofs.Common.{◌≡◌, ◌++◌, ◌+◌, ◌≤◌, length}
use Rattle.std.specs.Prelude.{All}
use Rattle.std.specs.List.{flat_map}
use Rattle.move_log.proofs.entry.read_entries.Given as goal

-- the entries so far fit, and theirs are the lines that were read
abbrev pub invariant-loop-entry : goal.invariant-loop-entry
invariant-loop-entry g l = All g.T.Entry.fits l.entries × (l.text ≡ flat_map g.T.Entry.line l.entries ++ l.rest) × (length l.entries + length l.rest ≤ length l.text)

-- the text that is left
abbrev pub decreases-loop-entry : goal.decreases-loop-entry
decreases-loop-entry g l = length l.rest
