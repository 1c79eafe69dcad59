use Rattle.std.proofs.Common.{◌+◌, ◌&&◌, ltb, drop, get_or, []}
use Rattle.generator_list.specs.Links.{AreCursors}
use Rattle.generator_list.specs.Search.{goes_on}
use Rattle.generator_list.proofs.search.Search.cursors.Given as goal

-- the cursors of the strands so far; the others are at the end
abbrev pub invariant-loop-strand : goal.invariant-loop-strand
invariant-loop-strand l = AreCursors (get_or l.self.arcs l.arc []) (λ s. ltb s l.strand && goes_on (drop (l.arc + 1) l.self.arcs) l.used s) 0 l.cursors
