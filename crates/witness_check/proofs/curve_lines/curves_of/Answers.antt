use Rattle.witness_check.specs.BookRules.{CurvesCome}
use Rattle.witness_check.proofs.CurveLines.{curves_fault, curves_kept, curves_more, have_page}
use Rattle.witness_check.proofs.EachLine.{that_fault}
use Rattle.witness_check.proofs.curve_lines.curves_of.Goals as goal

pub returns-in-None-clause-fault : goal.returns-in-None-clause-fault
returns-in-None-clause-fault c fault same =
    that_fault (CurvesCome c.args.page.now c.args.curves.now) _ fault same
    (curves_fault c.args.page.now c.args.curves.now c.loop-number.number c.index-curves-number.result c.in_ok-curve.field-0 c.loop-number-test.true
    c.index-curves-number.is c.in-None.is c.in_ok-curve.ensures.some c.loop-number.invariant.1)

pub loop-number-preserved : goal.loop-number-preserved
loop-number-preserved c =
    curves_more c.args.page.now c.args.curves.now c.loop-number.number c.index-curves-number.result c.in_ok-curve.field-0 c.in-Some.curve _ _
    c.loop-number-test.true c.index-curves-number.is c.in-Some.is c.in_ok-curve.ensures.value c.in_ok-curve.ensures.some
    c.in_ok-push-in-Some.ensures.ok c.loop-number.invariant

pub returns-clause-kept : goal.returns-clause-kept
returns-clause-kept c = curves_kept c.args.page.now c.args.curves.now c.loop-number.number c.loop-number-test.false c.loop-number.invariant.1

pub returns-clause-page : goal.returns-clause-page
returns-clause-page c = have_page c.args.page.now _ c.loop-number.found c.loop-number.invariant.0
