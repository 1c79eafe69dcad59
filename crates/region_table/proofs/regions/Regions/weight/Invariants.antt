use Rattle.std.proofs.Common.{◌≡◌, take}
use Rattle.std.specs.List.{sum_by}
use Rattle.region_table.specs.Table.{share}
use Rattle.region_table.proofs.regions.Regions.weight.Given as goal

-- the weight of the pieces so far
abbrev pub invariant-loop-name : goal.invariant-loop-name
invariant-loop-name l = l.weight ≡ sum_by share (take l.name l.self.regions)
