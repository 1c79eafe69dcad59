use Rattle.std.proofs.Common.{◌≤◌, arith, subst}
use Rattle.page_surface.specs.Polygon.{Polygon, sides}
use Rattle.dehn_twist.proofs.DrawnWords.{again_embedded, again_few, again_tight}
use Rattle.dehn_twist.proofs.single_twist.twisted.Goals as goal

pub embedded-requires-clause-embedded : goal.embedded-requires-clause-embedded
embedded-requires-clause-embedded c =
    again_embedded c.args.drawing.now.drawing c.points.ensures.valid c.args.curve.now c.requires.curve c.args.sign _ _ c.polygon-2.ensures c.in_ok-strands.ensures

pub embedded-requires-clause-few : goal.embedded-requires-clause-few
embedded-requires-clause-few c =
    let few_sides = subst (λ (p : Polygon). sides p ≤ 16) c.polygon.ensures (omega (arith, c.sides.ensures.value, c.sides.ensures.most)) in
    again_few c.args.drawing.now.drawing c.points.ensures.valid c.args.curve.now c.requires.curve c.args.sign _ _ c.polygon-2.ensures c.in_ok-strands.ensures c.requires.few few_sides c.exits.ensures.most

pub returns-clause-drawing : goal.returns-clause-drawing
returns-clause-drawing c =
    again_tight c.args.drawing.now.drawing c.points.ensures.valid c.args.curve.now c.requires.curve c.args.sign _ _ c.polygon-2.ensures c.in_ok-strands.ensures _ _ c.in_ok-now.ensures c.tighten.ensures.drawing
