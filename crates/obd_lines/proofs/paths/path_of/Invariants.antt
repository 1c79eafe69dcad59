use Rattle.std.proofs.Common.{◌≤◌, All}
use Rattle.obd_lines.proofs.paths.path_of.Given as goal

-- the crossings so far have occurrences
abbrev pub invariant-loop-word : goal.invariant-loop-word
invariant-loop-word l = All (λ c. c.occurrence ≤ 1) l.path.items
