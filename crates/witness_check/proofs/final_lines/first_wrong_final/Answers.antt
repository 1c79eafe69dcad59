use Rattle.std.proofs.Common.{◌≡◌, None, Some, sym, ◌∙◌}
use Rattle.witness_check.specs.declared.checked.Reason.TheVariants.{Final}
use Rattle.witness_check.specs.Checked.{first_fault}
use Rattle.witness_check.specs.DrawingRules.{exits_rule, exits_rules}
use Rattle.witness_check.specs.Rules.{each}
use Rattle.witness_check.proofs.FinalLines.{exits_keep, finals_begun}
use Rattle.witness_check.proofs.FirstFaults.{all_good, bad_here, fault_at, good_more}
use Rattle.witness_check.proofs.final_lines.first_wrong_final.Goals as goal

-- the line with other exits is the first fault
found : (c : goal.Then-not-has_exits) → first_fault (each (exits_rules c.args.drawing.now.drawing) c.args.finals.now) ≡ Some (fault_at c.loop-at.at Final)
found c =
    bad_here (exits_rule c.args.drawing.now.drawing) c.args.finals.now c.loop-at.at c.index-finals-at.result c.loop-at-test.true c.index-finals-at.is c.loop-at.invariant
    (exits_keep c.args.drawing.now.drawing c.loop-at.at c.new.result c.has_exits.result c.index-finals-at.result c.as_slice.result.now c.as_slice.ensures c.new.ensures c.has_exits.ensures
    ∙ c.if-not-has_exits.true)

-- where no line has some, there is no fault
none_found : (c : goal.After-loop-at) → first_fault (each (exits_rules c.args.drawing.now.drawing) c.args.finals.now) ≡ None
none_found c = all_good (exits_rule c.args.drawing.now.drawing) c.args.finals.now c.loop-at.at c.loop-at-test.false c.loop-at.invariant

pub returns-then-not-has_exits-clause-first : goal.returns-then-not-has_exits-clause-first
returns-then-not-has_exits-clause-first c = sym (found c)

pub returns-then-not-has_exits-clause-begun : goal.returns-then-not-has_exits-clause-begun
returns-then-not-has_exits-clause-begun c = λ k is. finals_begun c.args.drawing.now.drawing c.args.finals.now k is ∙ found c

pub loop-at-preserved : goal.loop-at-preserved
loop-at-preserved c =
    good_more (exits_rule c.args.drawing.now.drawing) c.args.finals.now c.loop-at.at c.index-finals-at.result c.loop-at-test.true c.index-finals-at.is c.loop-at.invariant
    (exits_keep c.args.drawing.now.drawing c.loop-at.at c.new.result c.has_exits.result c.index-finals-at.result c.as_slice.result.now c.as_slice.ensures c.new.ensures c.has_exits.ensures
    ∙ c.if-not-has_exits.false)

pub returns-clause-begun : goal.returns-clause-begun
returns-clause-begun c = λ k is. finals_begun c.args.drawing.now.drawing c.args.finals.now k is ∙ none_found c
