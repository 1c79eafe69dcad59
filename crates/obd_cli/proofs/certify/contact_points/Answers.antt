use Rattle.std.proofs.Common.{◌≡◌, ◌∙◌, ap}
use Rattle.obd_base.specs.declared.points.Point.{Point}
use Rattle.drawing.specs.Points.{crossings_of}
use Rattle.obd_cli.proofs.Collected.{collected_more}
use Rattle.obd_cli.proofs.certify.contact_points.Goals as goal

pub loop-arc-preserved : goal.loop-arc-preserved
loop-arc-preserved c =
    let number : c.contact.result.number ≡ crossings_of c.args.diagram.now c.loop-arc.arc = ap (λ (point : Point). point.number) c.contact.ensures ∙ ap (crossings_of c.args.diagram.now) c.new.ensures in
    collected_more (crossings_of c.args.diagram.now) c.loop-arc.arc _ _ _ c.loop-arc.invariant c.in_ok-push.ensures.ok number
