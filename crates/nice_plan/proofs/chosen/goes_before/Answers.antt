use Rattle.std.proofs.Common.{◌∙◌, arith}
use Rattle.nice_plan.proofs.GoesBefore.{before_by_segments}
use Rattle.nice_plan.proofs.chosen.goes_before.Goals as goal

pub returns : goal.returns
returns c =
    c.comes_first.ensures ∙ before_by_segments c.args.measured.now c.args.one c.args.other c.first-first.result c.first-other_first.result
    (omega (arith, c.distance-far.ensures.value, c.distance-other_far.ensures.value, c.if-far-other_far.false)) c.first-first.ensures.there c.first-other_first.ensures.there c.first-first.ensures.number c.first-other_first.ensures.number
