use Rattle.std.proofs.Common.{◌+◌, length, sym, ◌∙◌, ap, subst}
use Rattle.std.proofs.lemmas.Bool.{eqb-false, eqb-true}
use Rattle.move_log.specs.Text.{HasWrongLine}
use Rattle.move_log.proofs.Logs.{accepted, denied, is_wrong, nothing_left, reads, says_nothing}
use Rattle.move_log.proofs.log.Log.parse.Goals as goal

pub returns-then-is_empty-clause-ok : goal.returns-then-is_empty-clause-ok
returns-then-is_empty-clause-ok c =
    reads c.args.text.now c.in_ok-slides.words.now c.in_ok-fingers.rest.now c.in_ok-slides.slides c.in_ok-fingers.fingers
    c.in_ok-slides.ensures.all c.in_ok-fingers.ensures.all
    (nothing_left c.in_ok-fingers.rest.now (eqb-true _ _ (sym c.is_empty.ensures ∙ c.if-is_empty.true)))

pub returns-clause-refused : goal.returns-clause-refused
returns-clause-refused c =
    subst (HasWrongLine c.args.text.now) (λ i. sym c.len.ensures i + sym c.len-2.ensures i + 1)
    (is_wrong c.args.text.now c.in_ok-slides.words.now c.in_ok-fingers.rest.now c.in_ok-slides.slides c.in_ok-fingers.fingers
    c.in_ok-slides.ensures.all c.in_ok-fingers.ensures.all
    (λ empty. eqb-false _ _ (sym c.is_empty.ensures ∙ c.if-is_empty.false) (ap length empty)))

pub returns-in_err-slides-clause-refused : goal.returns-in_err-slides-clause-refused
returns-in_err-slides-clause-refused c = says_nothing c.args.text.now c.from_residual.result c.from_residual.ensures.1

pub returns-in_err-fingers-clause-refused : goal.returns-in_err-fingers-clause-refused
returns-in_err-fingers-clause-refused c = says_nothing c.args.text.now c.from_residual-in_err-fingers.result c.from_residual-in_err-fingers.ensures.1

pub returns-then-is_empty-clause-exact : goal.returns-then-is_empty-clause-exact
returns-then-is_empty-clause-exact c whole = accepted (returns-then-is_empty-clause-ok c)

pub returns-clause-exact : goal.returns-clause-exact
returns-clause-exact c whole = denied (returns-clause-refused c)
