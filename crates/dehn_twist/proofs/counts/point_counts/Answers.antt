use Rattle.std.proofs.Common.{◌∙◌, ap}
use Rattle.page_surface.specs.Drawing.{points_on}
use Rattle.dehn_twist.proofs.OrderTables.{map_push}
use Rattle.dehn_twist.proofs.counts.point_counts.Goals as goal

pub loop-side-preserved : goal.loop-side-preserved
loop-side-preserved c =
    map_push (points_on c.args.drawing.now.drawing) c.loop-side.side _ _ _ c.loop-side.invariant (c.points_on.ensures.value ∙ ap (points_on c.args.drawing.now.drawing) c.new.ensures) c.in_ok-push.ensures.items
