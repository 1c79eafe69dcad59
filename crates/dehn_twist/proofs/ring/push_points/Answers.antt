use Rattle.page_surface.specs.Drawing.{exit}
use Rattle.dehn_twist.specs.Tables.{curve_point}
use Rattle.dehn_twist.proofs.RingTables.{mapped_push}
use Rattle.dehn_twist.proofs.ring.push_points.Goals as goal

pub loop-place-preserved : goal.loop-place-preserved
loop-place-preserved c =
    mapped_push (curve_point c.args.merged.now.drawing c.args.merged.now.curve) (exit c.args.side) c.loop-place.place c.args.ring.now.items _ _ _ c.loop-place.invariant c.curve_point.ensures c.in_ok-push.ensures.items
