use Rattle.std.proofs.Common.{◌≡◌, drop}
use Rattle.generator_list.specs.Search.{open_rows}
use Rattle.generator_list.proofs.open_rows.open_rows.Given as goal

-- the rows of the arcs from the last one so far on
abbrev pub invariant-loop-arc : goal.invariant-loop-arc
invariant-loop-arc l = l.rows ≡ open_rows (drop l.arc l.arcs)
