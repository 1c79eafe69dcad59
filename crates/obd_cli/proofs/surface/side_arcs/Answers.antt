use Rattle.std.proofs.Common.{◌∙◌, ap}
use Rattle.page_surface.specs.Polygon.{arc}
use Rattle.obd_cli.proofs.Collected.{collected_more}
use Rattle.obd_cli.proofs.surface.side_arcs.Goals as goal

pub loop-side-preserved : goal.loop-side-preserved
loop-side-preserved c =
    collected_more (arc c.args.polygon.now) c.loop-side.side _ _ _ c.loop-side.invariant c.in_ok-push.ensures.ok (c.arc.ensures ∙ ap (arc c.args.polygon.now) c.new.ensures)
