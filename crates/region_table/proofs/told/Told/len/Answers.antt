use Rattle.std.proofs.Common.{length, ap, arith}
use Rattle.region_table.specs.Told.{Told}
use Rattle.region_table.proofs.ToldLists.{regions_size}
use Rattle.region_table.proofs.told.Told.len.Goals as goal

pub returns : goal.returns
returns c =
    let i = c.self.inside in
    omega (arith, c.len.ensures, i.bases.ok, regions_size i.bases.items i.firsts.items i.sizes.items i.distances.items, ap (λ (t : Told). length t.regions) c.self.view_is)
