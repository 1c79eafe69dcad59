use Rattle.std.proofs.Common.{length, sym, ap, arith, ◌∙◌}
use Rattle.region_table.specs.Table.{Region, Table, region_in}
use Rattle.region_table.proofs.AskedTables.{told_distance, told_size}
use Rattle.region_table.proofs.regions.Regions.label.Goals as goal

pub region-region-requires : goal.region-region-requires
region-region-requires c =
    let i = c.self.inside in
    omega (arith, c.requires, told_size i.names.items i.told.regions i.counted, ap (λ (t : Table). length t.regions) c.self.view_is)

pub returns : goal.returns
returns c =
    let i = c.self.inside in
    let seen = c.region.view_is ∙ c.region-region.ensures in
    ap (λ (r : Region). r.distance) seen ∙ (sym (told_distance i.names.items i.told.regions i.counted c.args.piece) ∙ ap (λ (t : Table). (region_in t.regions c.args.piece).distance) c.self.view_is)
