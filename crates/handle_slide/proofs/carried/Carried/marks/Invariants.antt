use Rattle.std.proofs.Common.{◌≡◌}
use Rattle.handle_slide.proofs.CarriedTables.{marks_so_far}
use Rattle.handle_slide.proofs.carried.Carried.marks.Given as goal

-- the marks of the chords so far
abbrev pub invariant-loop-at : goal.invariant-loop-at
invariant-loop-at l = l.marks.items ≡ marks_so_far l.self l.at
