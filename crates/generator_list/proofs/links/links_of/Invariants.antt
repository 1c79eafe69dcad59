use Rattle.generator_list.specs.Links.{IsLinkedFrom}
use Rattle.generator_list.proofs.links.links_of.Given as goal

-- the points so far, from the last one on, are linked
abbrev pub invariant-loop-point : goal.invariant-loop-point
invariant-loop-point l = IsLinkedFrom l.strands l.links l.point
