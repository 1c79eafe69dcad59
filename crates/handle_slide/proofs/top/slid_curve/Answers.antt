use Rattle.std.specs.Prelude.{IfSome}
use Rattle.std.proofs.Common.{sym, subst}
use Rattle.curve_paths.specs.Curves.{IsCurve}
use Rattle.handle_slide.specs.Slide.{slid_polygon}
use Rattle.handle_slide.proofs.Laws.{slide_curve}
use Rattle.handle_slide.proofs.top.slid_curve.Goals as goal

pub curve_of-requires-clause-curve : goal.curve_of-requires-clause-curve
curve_of-requires-clause-curve c =
    let curve = subst (λ o. IfSome o (λ r. IsCurve c.args.polygon.now r.now)) c.in-Some.is c.requires.curve in
    subst (λ q. IsCurve q c.in_ok-exits.exits.items) (sym c.requires.polygon)
    (subst (IsCurve (slid_polygon c.args.polygon.now c.args.side)) (sym c.in_ok-exits.ensures.exits)
    (slide_curve c.args.polygon.now c.args.side c.sides.ensures.valid c.requires.side c.requires.slides c.in-Some.curve.now curve))
