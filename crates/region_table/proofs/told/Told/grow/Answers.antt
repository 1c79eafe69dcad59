use Rattle.std.proofs.Common.{length, ap, arith}
use Rattle.region_table.specs.Told.{Told}
use Rattle.region_table.proofs.ToldLists.{regions_size}
use Rattle.region_table.proofs.told.Told.grow.Goals as goal

pub returns-clause-count : goal.returns-clause-count
returns-clause-count c =
    let i = c.self.inside in
    omega (
      arith,
      regions_size c.grow_by_two.new.list.items c.grow_by_two-2.new.list.items c.grow_by_two-3.new.list.items c.grow_by_two-4.new.list.items,
      c.grow_by_two.ensures.size,
      regions_size i.bases.items i.firsts.items i.sizes.items i.distances.items,
      ap (λ (t : Told). length t.regions) c.self.view_is,
    )
