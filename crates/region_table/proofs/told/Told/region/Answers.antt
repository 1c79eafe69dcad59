use Rattle.std.proofs.Common.{◌<◌, false, length, sym, ◌∙◌, ap, arith}
use Rattle.std.proofs.lemmas.List.{get_or_default}
use Rattle.region_table.specs.Table.{region_in}
use Rattle.region_table.specs.Told.{Told}
use Rattle.region_table.proofs.ToldLists.{region_listed, region_made, regions_size}
use Rattle.region_table.proofs.told.Told.region.Goals as goal

pub index-requires : goal.index-requires
index-requires c =
    let i = c.self.inside in
    omega (arith, c.requires, i.bases.ok, regions_size i.bases.items i.firsts.items i.sizes.items i.distances.items, ap (λ (t : Told). length t.regions) c.self.view_is)

pub index-requires-2 : goal.index-requires-2
index-requires-2 c =
    let i = c.self.inside in
    omega (arith, c.requires, i.firsts.ok, c.self.invariant.as_many_firsts, regions_size i.bases.items i.firsts.items i.sizes.items i.distances.items, ap (λ (t : Told). length t.regions) c.self.view_is)

pub index-requires-3 : goal.index-requires-3
index-requires-3 c =
    let i = c.self.inside in
    omega (arith, c.requires, i.sizes.ok, c.self.invariant.as_many_sizes, regions_size i.bases.items i.firsts.items i.sizes.items i.distances.items, ap (λ (t : Told). length t.regions) c.self.view_is)

pub index-requires-4 : goal.index-requires-4
index-requires-4 c =
    let i = c.self.inside in
    omega (arith, c.requires, i.distances.ok, c.self.invariant.as_many_distances, regions_size i.bases.items i.firsts.items i.sizes.items i.distances.items, ap (λ (t : Told). length t.regions) c.self.view_is)

pub returns : goal.returns
returns c =
    let i = c.self.inside in
    let n = c.args.name in
    let l : n < length i.bases.items = omega (arith, c.requires, regions_size i.bases.items i.firsts.items i.sizes.items i.distances.items, ap (λ (t : Told). length t.regions) c.self.view_is) in
    region_made
    (c.index.ensures ∙ get_or_default i.bases.items n _ false l)
    (c.index-2.ensures ∙ get_or_default i.firsts.items n _ 0 (omega (arith, l, c.self.invariant.as_many_firsts)))
    (c.index-3.ensures ∙ get_or_default i.sizes.items n _ 0 (omega (arith, l, c.self.invariant.as_many_sizes)))
    (c.index-4.ensures ∙ get_or_default i.distances.items n _ 0 (omega (arith, l, c.self.invariant.as_many_distances)))
    ∙ (sym (region_listed i.bases.items i.firsts.items i.sizes.items i.distances.items n l) ∙ ap (λ (t : Told). region_in t.regions n) c.self.view_is)
