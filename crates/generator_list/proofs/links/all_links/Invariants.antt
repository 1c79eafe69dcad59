use Rattle.std.proofs.Common.{take}
use Rattle.generator_list.specs.Links.{AreLinked}
use Rattle.generator_list.proofs.links.all_links.Given as goal

-- the arcs so far are linked
abbrev pub invariant-loop-strands : goal.invariant-loop-strands
invariant-loop-strands l = AreLinked (take l.strands-index l.arcs) l.links
