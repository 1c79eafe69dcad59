use Rattle.std.proofs.Common.{◌≡◌, ℕ, ◌<◌, false, [], get_or}
use Rattle.page_surface.specs.Joining.{has_side}
use Rattle.arc_basis.proofs.joining.side_place.Given as goal

-- no polygon so far has the side
abbrev pub invariant-loop-polygon : goal.invariant-loop-polygon
invariant-loop-polygon l = (k : ℕ) → k < l.polygon → has_side l.side (get_or l.polygons k []) ≡ false
