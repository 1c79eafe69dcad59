use Rattle.std.proofs.Common.{arith}
use Rattle.dehn_twist.proofs.OrderTables.{place_fits, points_few}
use Rattle.dehn_twist.proofs.order.Merged.kept_point.Goals as goal

pub overflow_add-place : goal.overflow_add-place
overflow_add-place c =
    let m = place_fits _ _ c.curve_points_on.ensures.few c.requires.lines in
    let k = points_few _ _ c.polygon.ensures.taken c.args.exit.side in
    omega (arith, m, k, c.requires.place)
