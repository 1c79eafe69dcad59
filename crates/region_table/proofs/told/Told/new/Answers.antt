use Rattle.std.proofs.Common.{arith}
use Rattle.region_table.proofs.ToldLists.{regions_size}
use Rattle.region_table.proofs.told.Told.new.Goals as goal

pub returns-clause-count : goal.returns-clause-count
returns-clause-count c =
    omega (arith, regions_size c.in_ok-bases.bases.items c.in_ok-firsts.firsts.items c.in_ok-sizes.sizes.items c.in_ok-distances.distances.items, c.in_ok-bases.ensures.len, c.in_ok-bases.bases.ok)
