use Rattle.std.specs.Prelude.{All, IfSome}
use Rattle.std.proofs.Common.{◌≢◌, ◌∙◌, sym, subst, arith}
use Rattle.std.proofs.lemmas.Bool.{eq-eqb, false≢true}
use Rattle.page_surface.specs.Polygon.{partner}
use Rattle.curve_paths.specs.Curves.{IsCurve}
use Rattle.handle_slide.specs.Slide.{side_after, slid_polygon}
use Rattle.handle_slide.proofs.Laws.{slide_curves}
use Rattle.handle_slide.proofs.SlidLetters.{letters_slid}
use Rattle.handle_slide.proofs.top.slide.Goals as goal

pub returns-clause-letters : goal.returns-clause-letters
returns-clause-letters c = λ curve.
    let slides : side_after c.args.polygon.now c.args.side ≢ partner c.args.polygon.now c.args.side
    = λ e. false≢true (sym c.if-eq.false ∙ (c.eq.ensures ∙ eq-eqb _ _ (c.side_after.ensures ∙ (e ∙ sym c.pair.ensures)))) in
    letters_slid c.args.polygon.now c.sides.ensures.valid c.args.side (omega (arith, c.if-sides-number.false, c.sides.ensures.value, c.number.ensures.value)) slides curve

pub returns-clause-stays : goal.returns-clause-stays
returns-clause-stays c =
    let slides : side_after c.args.polygon.now c.args.side ≢ partner c.args.polygon.now c.args.side
    = λ e. false≢true (sym c.if-eq.false ∙ (c.eq.ensures ∙ eq-eqb _ _ (c.side_after.ensures ∙ (e ∙ sym c.pair.ensures)))) in
    let all = slide_curves c.args.polygon.now c.args.side c.args.curves.now c.sides.ensures.valid (omega (arith, c.if-sides-number.false, c.sides.ensures.value, c.number.ensures.value)) slides c.requires in
    subst (λ q. All (λ curve. IfSome curve (IsCurve q)) c.in_ok-curves.curves) (sym c.in_ok-new.ensures.polygon)
    (subst (λ xs. All (λ curve. IfSome curve (IsCurve (slid_polygon c.args.polygon.now c.args.side))) xs) (sym c.in_ok-curves.ensures.value) all)
