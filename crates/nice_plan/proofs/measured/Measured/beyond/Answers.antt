use Rattle.std.proofs.Common.{◌≡◌, ◌-◌, ◌∙◌, ap, subst, sym, arith}
use Rattle.page_surface.specs.Drawing.{points_on}
use Rattle.page_surface.specs.Polygon.{partner}
use Rattle.nice_plan.specs.Measured.{IsMeasured, IsOn, Measured}
use Rattle.nice_plan.proofs.PathSteps.{beyond_on}
use Rattle.nice_plan.proofs.measured.Measured.beyond.Goals as goal

pub overflow_sub-result : goal.overflow_sub-result
overflow_sub-result c = omega (arith, c.requires.place, c.points_on.ensures.value, ap (λ (w : Measured). points_on w.drawing c.args.segment.now.side) c.self.view_is)

pub returns-clause-there : goal.returns-clause-there
returns-clause-there c =
    let m = c.args.self.now in
    let e = c.args.segment.now in
    let k = subst (λ (w : Measured). IsMeasured w.drawing w.table) c.self.view_is c.self.invariant in
    let a : c.pair.result ≡ partner m.drawing.polygon e.side = c.pair.ensures ∙ (ap (λ p. partner p e.side) c.polygon.ensures ∙ ap (λ (w : Measured). partner w.drawing.polygon e.side) c.self.view_is) in
    let b : c.points_on.result ≡ points_on m.drawing e.side = c.points_on.ensures.value ∙ ap (λ (w : Measured). points_on w.drawing e.side) c.self.view_is in
    subst (λ x. IsOn m.drawing (record { side = x; place = c.points_on.result - e.place })) (sym a)
    (subst (λ y. IsOn m.drawing (record { side = partner m.drawing.polygon e.side; place = y - e.place })) (sym b) (beyond_on m.drawing k.embedded e c.requires))
