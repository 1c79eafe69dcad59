use Rattle.std.proofs.Common.{ℕ, map}
use Rattle.obd_base.specs.Lists.{below}
use Rattle.page_surface.specs.Drawing.{exit}
use Rattle.curve_paths.specs.Curves.{curve_points}
use Rattle.dehn_twist.specs.Tables.{curve_point}
use Rattle.dehn_twist.proofs.RingTables.{ring_push}
use Rattle.dehn_twist.proofs.ring.ring.Goals as goal

pub loop-side-preserved : goal.loop-side-preserved
loop-side-preserved c =
    ring_push (curve_point c.args.merged.now.drawing c.args.merged.now.curve) (λ (k : ℕ). map (exit k) (below (curve_points c.args.merged.now.drawing.polygon c.args.merged.now.curve k))) c.loop-side.side
    _ _ _ c.loop-side.invariant c.new.ensures c.in_ok-push_points.ensures
