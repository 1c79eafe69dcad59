use Rattle.std.proofs.Common.{◌≡◌, ℕ, length, get_or, refl, ap, arith}
use Rattle.region_table.specs.Told.{Told}
use Rattle.region_table.proofs.ToldLists.{regions_size, sized_from, sized_written}
use Rattle.region_table.proofs.ToldTables.{written}
use Rattle.region_table.proofs.told.Told.count.Goals as goal

pub count_spans-requires-clause-told : goal.count_spans-requires-clause-told
count_spans-requires-clause-told c = λ s l.
    let i = c.self.inside in
    omega (
      arith,
      c.requires.told s l,
      regions_size i.bases.items i.firsts.items i.sizes.items i.distances.items,
      ap (λ (t : Told). length t.regions) c.self.view_is,
      c.self.invariant.as_many_sizes,
      c.deref_mut.ensures.len,
      c.fill.ensures.len,
      i.sizes.ok,
    )

pub returns-clause-counted : goal.returns-clause-counted
returns-clause-counted c =
    let i = c.self.inside in
    let name : ℕ → ℕ = λ s. get_or c.args.names.now s 0 in
    let firsts_long : i.firsts.len ≡ length c.count_spans.new.firsts = omega (arith, c.count_spans.ensures.first_size, c.deref_mut-2.ensures.len) in
    let sizes_long : c.fill.new.self.len ≡ length c.count_spans.new.sizes = omega (arith, c.count_spans.ensures.size, c.deref_mut.ensures.len) in
    let many : length c.count_spans.new.sizes ≡ length i.bases.items = omega (arith, sizes_long, c.fill.ensures.len, i.sizes.ok, c.self.invariant.as_many_sizes) in
    sized_from name (length c.args.names.now) (ap (λ (t : Told). t.regions) c.self.view_is)
    (sized_written i.bases.items i.firsts.items i.sizes.items i.distances.items name (length c.args.names.now) c.count_spans.new.firsts c.count_spans.new.sizes _ _
    (written c.count_spans.new.firsts _ _ _ firsts_long refl) (written c.count_spans.new.sizes _ _ _ sizes_long refl) many c.count_spans.ensures.counted)
