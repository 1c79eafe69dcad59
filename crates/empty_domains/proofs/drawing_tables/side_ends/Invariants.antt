use Rattle.std.proofs.Common.{◌≡◌, ◌+◌, map}
use Rattle.obd_base.specs.Lists.{below}
use Rattle.page_surface.specs.Drawing.{offset, points_on}
use Rattle.empty_domains.proofs.drawing_tables.side_ends.Given as goal

-- those of the sides so far
abbrev pub invariant-loop-side : goal.invariant-loop-side
invariant-loop-side l = l.ends.items ≡ map (λ k. offset l.diagram k + points_on l.diagram k) (below l.side)
