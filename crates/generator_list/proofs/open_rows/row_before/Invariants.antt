use Rattle.std.proofs.Common.{◌≡◌, map}
use Rattle.std.specs.List.{list_any}
use Rattle.obd_base.specs.Lists.{below}
use Rattle.generator_list.specs.Search.{is_choice}
use Rattle.generator_list.proofs.open_rows.row_before.Given as goal

-- the entries of the sets so far
abbrev pub invariant-loop-set : goal.invariant-loop-set
invariant-loop-set l = l.row ≡ map (λ set. list_any (is_choice l.met l.next set) (below 8)) (below l.set)
