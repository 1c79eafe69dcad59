use Rattle.std.proofs.Common.{◌∙◌, ap}
use Rattle.curve_paths.specs.Curves.{curve_points}
use Rattle.handle_slide.proofs.CarriedTables.{few_in_rows, number_first, number_next}
use Rattle.handle_slide.proofs.carried.Carried.number.Goals as goal

pub returns-then-eq-clause-within : goal.returns-then-eq-clause-within
returns-then-eq-clause-within c = (number_first c.args.self.now c.points-first.ensures.known c.args.point c.requires c.slid_side-side.result c.eq.result c.slid_side-side.ensures.value c.eq.ensures c.if-eq.true).0

pub returns-then-eq-clause-few : goal.returns-then-eq-clause-few
returns-then-eq-clause-few c = few_in_rows c.args.self.now c.points-first.ensures.known

pub returns-else-eq-clause-value : goal.returns-else-eq-clause-value
returns-else-eq-clause-value c =
    (number_next c.args.self.now c.points-first.ensures.known c.args.point c.requires c.slid_side-side.result c.points-first.result c.eq.result c.slid_side-side.ensures.value (c.points-first.ensures.value ∙ ap (curve_points c.args.self.now.polygon c.args.self.now.exits) c.slid_side-side.ensures.value) c.eq.ensures c.if-eq.false).1

pub returns-else-eq-clause-within : goal.returns-else-eq-clause-within
returns-else-eq-clause-within c =
    (number_next c.args.self.now c.points-first.ensures.known c.args.point c.requires c.slid_side-side.result c.points-first.result c.eq.result c.slid_side-side.ensures.value (c.points-first.ensures.value ∙ ap (curve_points c.args.self.now.polygon c.args.self.now.exits) c.slid_side-side.ensures.value) c.eq.ensures c.if-eq.false).0

pub returns-else-eq-clause-few : goal.returns-else-eq-clause-few
returns-else-eq-clause-few c = few_in_rows c.args.self.now c.points-first.ensures.known
