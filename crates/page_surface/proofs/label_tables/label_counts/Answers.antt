use Rattle.std.proofs.Common.{arith}
use Rattle.page_surface.proofs.SideTables.{all_counted, few_counted}
use Rattle.page_surface.proofs.label_tables.label_counts.Goals as goal

pub count_sides-requires-clause-few : goal.count_sides-requires-clause-few
count_sides-requires-clause-few c = λ label.
    let few = few_counted c.args.polygons.now c.loop-polygon.counts.items c.args.label_count c.loop-polygon.invariant.size c.loop-polygon.polygon-index c.polygon-item.result
    c.loop-polygon-test.true c.polygon-item.is c.loop-polygon.invariant.counts label in
    rw (c.deref_mut.ensures.value, c.as_slice.ensures) (omega (arith, few, c.requires.few))

pub returns : goal.returns
returns c =
    all_counted c.args.polygons.now c.loop-polygon.counts.items c.args.label_count c.loop-polygon.invariant.size c.loop-polygon.polygon-index c.loop-polygon-test.false
    c.loop-polygon.invariant.counts
