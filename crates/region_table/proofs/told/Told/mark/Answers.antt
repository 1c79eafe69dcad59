use Rattle.std.proofs.Common.{◌≡◌, length, get_or, refl, ap, arith}
use Rattle.region_table.specs.Counted.{has_gap}
use Rattle.region_table.specs.Told.{Told}
use Rattle.region_table.proofs.ToldLists.{marked_told, regions_size}
use Rattle.region_table.proofs.ToldTables.{written}
use Rattle.region_table.proofs.told.Told.mark.Goals as goal

pub mark_bases-requires-clause-told : goal.mark_bases-requires-clause-told
mark_bases-requires-clause-told c = λ s l.
    let i = c.self.inside in
    omega (
      arith,
      c.requires.told s l,
      regions_size i.bases.items i.firsts.items i.sizes.items i.distances.items,
      ap (λ (t : Told). length t.regions) c.self.view_is,
      c.deref_mut.ensures.len,
      c.fill.ensures.len,
      i.bases.ok,
    )

pub returns-clause-base : goal.returns-clause-base
returns-clause-base c =
    let i = c.self.inside in
    let long : c.fill.new.self.len ≡ length c.mark_bases.new.bases = omega (arith, c.mark_bases.ensures.size, c.deref_mut.ensures.len) in
    marked_told c.mark_bases.new.bases i.firsts.items i.sizes.items i.distances.items _ (written c.mark_bases.new.bases _ _ _ long refl)
    (λ p. has_gap c.args.drawing.now.drawing (λ s. get_or c.args.names.now s 0) p) c.mark_bases.ensures.marked
