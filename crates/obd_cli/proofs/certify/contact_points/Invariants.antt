use Rattle.std.proofs.Common.{◌≡◌, map}
use Rattle.drawing.specs.Points.{crossings_of}
use Rattle.obd_base.specs.Lists.{below}
use Rattle.obd_cli.proofs.certify.contact_points.Given as goal

-- the contact points of the arcs so far
abbrev pub invariant-loop-arc : goal.invariant-loop-arc
invariant-loop-arc l = l.points ≡ map (crossings_of l.diagram) (below l.arc)
