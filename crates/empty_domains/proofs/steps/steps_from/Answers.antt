use Rattle.std.proofs.Common.{◌<◌, ◌∙◌, arith}
use Rattle.std.proofs.lemmas.Result.{IfOk-weaker}
use Rattle.empty_domains.proofs.Generators.{generator_choice}
use Rattle.empty_domains.proofs.Grounded.{all_same}
use Rattle.empty_domains.proofs.StandMade.{stand_under}
use Rattle.page_surface.specs.Polygon.{sides}
use Rattle.empty_domains.proofs.steps.steps_from.Goals as goal

pub all_steps-requires-clause-standing : goal.all_steps-requires-clause-standing
all_steps-requires-clause-standing c = let (y, gy, on) = c.requires.standing in on.size ∙ omega (arith, c.requires.tables.ends_size)

pub all_steps-requires-clause-inside : goal.all_steps-requires-clause-inside
all_steps-requires-clause-inside c = λ side l.
    let (y, gy, on) = c.requires.standing in
    let d = c.args.diagram.now in
    let k : side < sides d.polygon = omega (arith, l, c.requires.tables.ends_size) in
    omega (arith, stand_under d c.requires.valid y gy side k, on.each side k, c.requires.tables.other_size)

pub returns : goal.returns
returns c = λ y gy on.
    IfOk-weaker c.all_steps.result _ _ (λ steps e. e ∙ all_same c.args.diagram.now c.requires.valid c.args.tables.now c.requires.tables y c.args.standing.now (generator_choice c.args.diagram.now y gy).0 on) c.all_steps.ensures
