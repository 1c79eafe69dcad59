use Rattle.std.proofs.Common.{◌≡◌, false}
use Rattle.std.specs.List.{list_any}
use Rattle.obd_base.specs.Lists.{below}
use Rattle.generator_list.specs.Search.{is_choice}
use Rattle.generator_list.proofs.open_rows.can_choose.Given as goal

-- none of the strands so far is a choice
abbrev pub invariant-loop-strand : goal.invariant-loop-strand
invariant-loop-strand l = list_any (is_choice l.strands l.next l.used) (below l.strand) ≡ false
