use Rattle.std.proofs.Common.{◌≡◌, take}
use Rattle.drawing.specs.Points.{contact_generator}
use Rattle.witness_check.proofs.generator_lines.are_contact_points.Given as goal

-- the points so far are the contact points
abbrev pub invariant-loop-arc : goal.invariant-loop-arc
invariant-loop-arc l = take l.arc l.points ≡ take l.arc (contact_generator l.diagram)
