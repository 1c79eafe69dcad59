use Rattle.std.proofs.Common.{◌∙◌, ap}
use Rattle.curve_paths.specs.Curves.{curve_points}
use Rattle.dehn_twist.proofs.OrderTables.{map_push}
use Rattle.dehn_twist.proofs.counts.curve_counts.Goals as goal

pub loop-side-preserved : goal.loop-side-preserved
loop-side-preserved c =
    let f = curve_points c.args.polygon.now c.args.exits.now in
    map_push f c.loop-side.side _ _ _ c.loop-side.invariant (c.curve_points_on.ensures ∙ ap f c.new.ensures) c.in_ok-push.ensures.items
