use Rattle.std.proofs.Common.{arith, ap, length, sym, subst}
use Rattle.std.proofs.lemmas.Result.{IfOk-weaker}
use Rattle.handle_slide.proofs.CarriedTables.{on_sides}
use Rattle.curve_paths.specs.Curves.{IsCurve}
use Rattle.handle_slide.proofs.Laws.{slide_size}
use Rattle.handle_slide.proofs.top.slid_exits.Goals as goal

pub points_on_sides-requires-clause-in_range : goal.points_on_sides-requires-clause-in_range
points_on_sides-requires-clause-in_range c = on_sides c.args.polygon.now c.exits-exits.result.now (subst (IsCurve c.args.polygon.now) (sym c.exits-exits.ensures.value) c.requires.curve)

pub returns-clause-few : goal.returns-clause-few
returns-clause-few c =
    IfOk-weaker c.slid_exits.result _ _ (λ exits is. omega (arith, ap length is, slide_size c.args.polygon.now c.args.side c.exits-exits.result.now, c.exits-exits.ensures.most, ap length c.exits-exits.ensures.value)) c.slid_exits.ensures
