use Rattle.std.proofs.Common.{◌≡◌, take, map}
use Rattle.obd_base.specs.declared.points.Exit.{Exit}
use Rattle.witness_check.proofs.strand_lines.has_sides.Given as goal

-- the sides so far are the word's
abbrev pub invariant-loop-at : goal.invariant-loop-at
invariant-loop-at l = take l.at (map (λ (e : Exit). e.side) l.exits) ≡ take l.at l.word
