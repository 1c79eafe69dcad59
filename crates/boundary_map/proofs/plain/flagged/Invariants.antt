use Rattle.std.proofs.Common.{◌≡◌, false, filter, get_or}
use Rattle.obd_base.specs.Lists.{below}
use Rattle.boundary_map.proofs.plain.flagged.Given as goal

-- those so far
abbrev pub invariant-loop-number : goal.invariant-loop-number
invariant-loop-number l = l.rows ≡ filter (λ i. get_or l.flags i false) (below l.number)
