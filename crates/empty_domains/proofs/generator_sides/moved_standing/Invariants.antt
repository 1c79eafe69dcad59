use Rattle.std.proofs.Common.{◌≡◌, map}
use Rattle.obd_base.specs.Lists.{below}
use Rattle.empty_domains.specs.Strip.{stand}
use Rattle.empty_domains.proofs.generator_sides.moved_standing.Given as goal

-- those of the sides so far
abbrev pub invariant-loop-side : goal.invariant-loop-side
invariant-loop-side l = l.standing.items ≡ map (stand l.diagram l.points) (below l.side)
