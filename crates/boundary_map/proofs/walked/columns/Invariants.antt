use Rattle.std.proofs.Common.{◌≡◌, map, take}
use Rattle.hkm_diagram.specs.Domains.{column}
use Rattle.boundary_map.proofs.walked.columns.Given as goal

-- the columns of the generators so far
abbrev pub invariant-loop-number : goal.invariant-loop-number
invariant-loop-number l = map (λ c. c.rows) l.columns ≡ map (column l.diagram) (take l.number l.generators)
