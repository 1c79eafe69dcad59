use Rattle.std.proofs.Common.{◌≡◌, true, take}
use Rattle.std.specs.List.{list_all}
use Rattle.region_table.specs.Table.{is_good}
use Rattle.region_table.proofs.regions.Regions.is_nice.Given as goal

-- the pieces so far are good
abbrev pub invariant-loop-name : goal.invariant-loop-name
invariant-loop-name l = list_all is_good (take l.name l.self.regions) ≡ true
