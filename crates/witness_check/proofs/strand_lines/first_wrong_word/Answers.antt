use Rattle.std.proofs.Common.{◌≡◌, None, Some, sym, ◌∙◌}
use Rattle.witness_check.specs.declared.checked.Reason.TheVariants.{Word}
use Rattle.witness_check.specs.Checked.{first_fault}
use Rattle.witness_check.specs.DrawingRules.{word_rule, word_rules}
use Rattle.witness_check.specs.Rules.{each}
use Rattle.witness_check.proofs.FirstFaults.{all_good, bad_here, fault_at, good_more}
use Rattle.witness_check.proofs.StrandLines.{strands_begun, word_keeps}
use Rattle.witness_check.proofs.strand_lines.first_wrong_word.Goals as goal

-- the line with another word is the first fault
found : (c : goal.Then-not-has_word) → first_fault (each (word_rules c.args.words.now) c.args.strands.now) ≡ Some (fault_at c.loop-at.at Word)
found c =
    bad_here (word_rule c.args.words.now) c.args.strands.now c.loop-at.at c.index-strands-at.result c.loop-at-test.true c.index-strands-at.is c.loop-at.invariant
    (word_keeps c.args.words.now c.loop-at.at c.index-strands-at.result c.as_slice.result.now c.as_slice.ensures ∙ (sym c.has_word.ensures ∙ c.if-not-has_word.true))

-- where no line has one, there is no fault
none_found : (c : goal.After-loop-at) → first_fault (each (word_rules c.args.words.now) c.args.strands.now) ≡ None
none_found c = all_good (word_rule c.args.words.now) c.args.strands.now c.loop-at.at c.loop-at-test.false c.loop-at.invariant

pub returns-then-not-has_word-clause-first : goal.returns-then-not-has_word-clause-first
returns-then-not-has_word-clause-first c = sym (found c)

pub returns-then-not-has_word-clause-begun : goal.returns-then-not-has_word-clause-begun
returns-then-not-has_word-clause-begun c = λ k is. strands_begun c.args.words.now c.args.strands.now k is ∙ found c

pub loop-at-preserved : goal.loop-at-preserved
loop-at-preserved c =
    good_more (word_rule c.args.words.now) c.args.strands.now c.loop-at.at c.index-strands-at.result c.loop-at-test.true c.index-strands-at.is c.loop-at.invariant
    (word_keeps c.args.words.now c.loop-at.at c.index-strands-at.result c.as_slice.result.now c.as_slice.ensures ∙ (sym c.has_word.ensures ∙ c.if-not-has_word.false))

pub returns-clause-begun : goal.returns-clause-begun
returns-clause-begun c = λ k is. strands_begun c.args.words.now c.args.strands.now k is ∙ none_found c
