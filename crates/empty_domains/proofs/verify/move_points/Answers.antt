use Rattle.std.proofs.Common.{◌+◌, ap, arith, refl}
use Rattle.empty_domains.proofs.Looks.{spot_under}
use Rattle.empty_domains.proofs.PointMade.{step_led}
use Rattle.empty_domains.specs.Strip.{Step}
use Rattle.empty_domains.proofs.verify.move_points.Goals as goal

pub overflow_add-step-inside : goal.overflow_add-step-inside
overflow_add-step-inside c =
    omega (arith, spot_under c.args.diagram.now c.requires.valid (c.args.step.by.start + c.args.step.by.width) c.requires.start, c.requires.few, ap (λ (s : Step). s.by.start) c.step.view_is, ap (λ (s : Step). s.by.width) c.step.view_is)

pub overflow_add-step-inside-2 : goal.overflow_add-step-inside-2
overflow_add-step-inside-2 c =
    omega (arith, spot_under c.args.diagram.now c.requires.valid (c.args.step.by.stop + c.args.step.by.width) c.requires.stop, c.requires.few, ap (λ (s : Step). s.by.stop) c.step.view_is, ap (λ (s : Step). s.by.width) c.step.view_is)

pub returns-clause-points : goal.returns-clause-points
returns-clause-points c =
    step_led c.args.diagram.now c.args.x.now c.args.x.now c.args.step c.step.inside.arc c.step.inside.second (c.step.inside.start + c.step.inside.width) (c.step.inside.stop + c.step.inside.width) c.point_at.result c.point_at-2.result
    refl (ap (λ (s : Step). s.by.first) c.step.view_is) (ap (λ (s : Step). s.by.second) c.step.view_is)
    (ap (λ (s : Step). s.by.start + s.by.width) c.step.view_is) (ap (λ (s : Step). s.by.stop + s.by.width) c.step.view_is) c.point_at.ensures c.point_at-2.ensures
