use Rattle.std.proofs.Common.{◌≡◌, take, None}
use Rattle.witness_check.specs.Checked.{first_fault}
use Rattle.witness_check.specs.DrawingRules.{word_rules}
use Rattle.witness_check.specs.Rules.{each}
use Rattle.witness_check.proofs.strand_lines.first_wrong_word.Given as goal

-- the lines so far keep the rule
abbrev pub invariant-loop-at : goal.invariant-loop-at
invariant-loop-at l = first_fault (each (word_rules l.words) (take l.at l.strands)) ≡ None
