use Rattle.std.proofs.Common.{◌≡◌, ◌++◌, take}
use Rattle.std.specs.Prelude.{All}
use Rattle.std.specs.List.{flat_map}
use Rattle.move_log.proofs.entry.put_entries.Given as goal

-- the lines so far were appended, and the entries fit
abbrev pub invariant-loop-entry : goal.invariant-loop-entry
invariant-loop-entry g l = (l.text ≡ l.initial.text ++ flat_map g.T.Entry.line (take l.entry-index l.entries)) × All g.T.Entry.fits (take l.entry-index l.entries)
