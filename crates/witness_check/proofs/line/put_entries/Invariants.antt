use Rattle.std.proofs.Common.{◌≡◌, ◌++◌, take}
use Rattle.witness_check.specs.Line.{lines}
use Rattle.witness_check.proofs.line.put_entries.Given as goal

-- the lines so far were appended
abbrev pub invariant-loop-entry : goal.invariant-loop-entry
invariant-loop-entry g l = l.text ≡ l.initial.text ++ lines l.kind g.T.Entry.words (take l.entry-index l.entries)
