use Rattle.std.proofs.Common.{◌+◌, get_or, arith, subst, sym}
use Rattle.empty_domains.specs.Ground.{IsSpot}
use Rattle.region_table.proofs.EdgeWalk.{mem_of_place}
use Rattle.empty_domains.proofs.rules.far_edges_keep.Goals as goal

pub other-far-requires : goal.other-far-requires
other-far-requires c = c.requires.rows (get_or c.args.rows.now c.loop-start.start-index 0) (mem_of_place c.args.rows.now c.loop-start.start-index 0 c.loop-start-test.true)

pub overflow_add-start : goal.overflow_add-start
overflow_add-start c =
    omega (arith, c.requires.near.few, c.requires.rows (get_or c.args.rows.now c.loop-start.start-index 0) (mem_of_place c.args.rows.now c.loop-start.start-index 0 c.loop-start-test.true))

pub edge_keeps-requires-clause-spots : goal.edge_keeps-requires-clause-spots
edge_keeps-requires-clause-spots c = λ i l.
    subst (λ z. IsSpot c.args.diagram.now (z + i)) (sym c.other-far.ensures.value)
    (c.requires.spots (get_or c.args.rows.now c.loop-start.start-index 0) (mem_of_place c.args.rows.now c.loop-start.start-index 0 c.loop-start-test.true) i l)
