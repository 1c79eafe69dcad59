use Rattle.std.proofs.Common.{◌≡◌, ◌∙◌, ap, sym, subst, arith, false, true, ℕ}
use Rattle.page_surface.specs.Drawing.{right_on}
use Rattle.page_surface.specs.Polygon.{sides}
use Rattle.drawing.specs.Reading.{IsFirstWrong}
use Rattle.drawing.proofs.Hits.{all_below_more, all_right, first_wrong_is}
use Rattle.drawing.proofs.places.first_wrong.Goals as goal

pub returns-then-not-is_right_on-clause-wrong : goal.returns-then-not-is_right_on-clause-wrong
returns-then-not-is_right_on-clause-wrong c =
    let arcs = ap sides c.polygon.ensures.value in
    let wrong : right_on c.args.layout.now.drawing c.loop-number.number ≡ false
    = ap (right_on c.args.layout.now.drawing) (sym c.new-side.ensures) ∙ (sym c.is_right_on.ensures ∙ c.if-not-is_right_on.true) in
    subst (λ (k : ℕ). IsFirstWrong c.args.layout.now.drawing k) (sym c.new-side.ensures)
    (first_wrong_is c.args.layout.now.drawing c.loop-number.number (omega (arith, arcs, c.loop-number-test.true, c.sides-number-end.ensures.value)) c.loop-number.invariant wrong)

pub loop-number-preserved : goal.loop-number-preserved
loop-number-preserved c =
    let right : right_on c.args.layout.now.drawing c.loop-number.number ≡ true
    = ap (right_on c.args.layout.now.drawing) (sym c.new-side.ensures) ∙ (sym c.is_right_on.ensures ∙ c.if-not-is_right_on.false) in
    all_below_more (right_on c.args.layout.now.drawing) c.loop-number.number c.loop-number.invariant right

pub returns-clause-right : goal.returns-clause-right
returns-clause-right c =
    let arcs = ap sides c.polygon.ensures.value in
    all_right c.args.layout.now.drawing c.loop-number.number (omega (arith, arcs, c.loop-number-test.false, c.sides-number-end.ensures.value)) c.loop-number.invariant
