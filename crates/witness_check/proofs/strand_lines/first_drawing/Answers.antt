use Rattle.std.proofs.Common.{◌≡◌, ◌≤◌, None, false, length, sym, ◌∙◌, arith, subst}
use Rattle.std.specs.Prelude.{IfNone, IfSome}
use Rattle.page_surface.specs.Drawing.{IsEmbedded, is_embedded}
use Rattle.page_surface.proofs.EmbeddedTest.{test_from_embedded}
use Rattle.drawing.specs.Layout.{drawn}
use Rattle.drawing.specs.Room.{Roomy}
use Rattle.witness_check.specs.declared.checked.Reason.TheVariants.{Drawing}
use Rattle.witness_check.specs.Checked.{first_fault}
use Rattle.witness_check.specs.DrawingRules.{HasStrands, IsFirst, word_rule, word_rules}
use Rattle.witness_check.specs.Rules.{each, strand_rules}
use Rattle.witness_check.proofs.LastRules.{last_kept, last_stops, own_stops}
use Rattle.witness_check.proofs.StrandLines.{exits_few, exits_on, strands_whole}
use Rattle.witness_check.proofs.strand_lines.first_drawing.Goals as goal

-- all lines have their words
words_kept : (c : goal.In_default) → first_fault (each (word_rules c.args.words.now) c.args.strands.now) ≡ None
words_kept c = sym c.first_wrong_word.ensures.first ∙ c.in_default.is

pub returns-in-Some-clause-fault : goal.returns-in-Some-clause-fault
returns-in-Some-clause-fault c =
    let strands = c.args.strands.now in
    let some : 1 ≤ length strands = omega (arith, c.requires.each, c.sides.ensures.value, c.sides.ensures.least) in
    own_stops (HasStrands c.args.polygon.now c.args.words.now strands) (λ k. each (strand_rules k) strands) (word_rule c.args.words.now) Drawing (is_embedded (drawn c.args.polygon.now strands)) strands
    (strands_whole c.args.polygon.now c.args.words.now strands some) c.in-Some.fault (sym c.first_wrong_word.ensures.first ∙ c.in-Some.is)

pub read-requires-clause-on_sides : goal.read-requires-clause-on_sides
read-requires-clause-on_sides c = exits_on c.args.polygon.now c.args.words.now c.requires.words c.args.strands.now c.requires.each (words_kept c)

pub read-requires-clause-few : goal.read-requires-clause-few
read-requires-clause-few c = exits_few c.args.polygon.now c.args.words.now c.requires.words c.args.strands.now c.requires.each (words_kept c)

pub returns-in-Some-2-clause-first : goal.returns-in-Some-2-clause-first
returns-in-Some-2-clause-first c =
    let d = drawn c.args.polygon.now c.args.strands.now in
    let made : c.in-Some-2.drawing.drawing ≡ d = subst (λ found. IfSome found (λ (made : Roomy). made.drawing ≡ d)) c.in-Some-2.is c.in_ok-drawing.ensures.drawing in
    let embedded : IsEmbedded d = subst (λ found. IfSome found (λ (made : Roomy). IsEmbedded d)) c.in-Some-2.is c.in_ok-drawing.ensures.embedded in
    subst IsFirst (sym made) (record {
      embedded = embedded;
      few = exits_few c.args.polygon.now c.args.words.now c.requires.words c.args.strands.now c.requires.each (sym c.first_wrong_word.ensures.first ∙ c.in_default.is);
    })

pub returns-in-Some-2-clause-kept : goal.returns-in-Some-2-clause-kept
returns-in-Some-2-clause-kept c =
    let strands = c.args.strands.now in
    let d = drawn c.args.polygon.now strands in
    let some : 1 ≤ length strands = omega (arith, c.requires.each, c.sides.ensures.value, c.sides.ensures.least) in
    last_kept (HasStrands c.args.polygon.now c.args.words.now strands) (λ k. each (strand_rules k) strands) (word_rule c.args.words.now) Drawing (is_embedded d) strands
    (strands_whole c.args.polygon.now c.args.words.now strands some) (sym c.first_wrong_word.ensures.first ∙ c.in_default.is)
    (test_from_embedded d (subst (λ found. IfSome found (λ (made : Roomy). IsEmbedded d)) c.in-Some-2.is c.in_ok-drawing.ensures.embedded))

pub returns-in-None-clause-fault : goal.returns-in-None-clause-fault
returns-in-None-clause-fault c =
    let strands = c.args.strands.now in
    let d = drawn c.args.polygon.now strands in
    let some : 1 ≤ length strands = omega (arith, c.requires.each, c.sides.ensures.value, c.sides.ensures.least) in
    last_stops (HasStrands c.args.polygon.now c.args.words.now strands) (λ k. each (strand_rules k) strands) (word_rule c.args.words.now) Drawing (is_embedded d) strands
    (strands_whole c.args.polygon.now c.args.words.now strands some) (sym c.first_wrong_word.ensures.first ∙ c.in_default.is)
    (subst (λ found. IfNone found (is_embedded d ≡ false)) c.in-None.is c.in_ok-drawing.ensures.refused)
