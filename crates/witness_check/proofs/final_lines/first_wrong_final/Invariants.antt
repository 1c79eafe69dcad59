use Rattle.std.proofs.Common.{◌≡◌, take, None}
use Rattle.witness_check.specs.Checked.{first_fault}
use Rattle.witness_check.specs.DrawingRules.{exits_rules}
use Rattle.witness_check.specs.Rules.{each}
use Rattle.witness_check.proofs.final_lines.first_wrong_final.Given as goal

-- the lines so far keep the rule
abbrev pub invariant-loop-at : goal.invariant-loop-at
invariant-loop-at l = first_fault (each (exits_rules l.drawing.drawing) (take l.at l.finals)) ≡ None
