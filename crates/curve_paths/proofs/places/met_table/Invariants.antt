use Rattle.std.proofs.Common.{take}
use Rattle.curve_paths.specs.PlaceTables.{AreMet}
use Rattle.curve_paths.proofs.places.met_table.Given as goal

-- the places that are met so far
abbrev pub invariant-loop-crossing : goal.invariant-loop-crossing
invariant-loop-crossing l = AreMet (take l.crossing-index l.crossings) l.label_count l.met.items
