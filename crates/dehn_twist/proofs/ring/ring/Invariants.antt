use Rattle.std.proofs.Common.{◌≡◌, map}
use Rattle.std.specs.List.{flat_map}
use Rattle.obd_base.specs.Lists.{below}
use Rattle.page_surface.specs.Drawing.{exit}
use Rattle.curve_paths.specs.Curves.{curve_points}
use Rattle.dehn_twist.specs.Tables.{curve_point}
use Rattle.dehn_twist.proofs.ring.ring.Given as goal

-- the points of the sides so far
abbrev pub invariant-loop-side : goal.invariant-loop-side
invariant-loop-side l =
    l.ring.items ≡ map (curve_point l.merged.drawing l.merged.curve) (flat_map (λ k. map (exit k) (below (curve_points l.merged.drawing.polygon l.merged.curve k))) (below l.side))
