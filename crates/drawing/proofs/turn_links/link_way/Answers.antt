use Rattle.std.proofs.Common.{◌∙◌, ap, arith, length}
use Rattle.drawing.specs.Links.{exit_gone}
use Rattle.drawing.specs.ThinTables.{is_gone}
use Rattle.drawing.proofs.Ends.{placed}
use Rattle.drawing.proofs.KeptTables.{row_within}
use Rattle.drawing.proofs.LinkTables.{between_more, between_near, exit_gone_read}
use Rattle.drawing.proofs.StrandTables.{exit_there}
use Rattle.drawing.proofs.turn_links.link_way.Goals as goal
use Rattle.drawing.proofs.turn_links.link_way.Goals.{then-not-gone-spot, else-not-gone-spot}

pub overflow_cast-count : goal.overflow_cast-count
overflow_cast-count c = omega (arith, c.requires.few, row_within c.args.layout.now.drawing.strands c.args.strand, ap length c.exits-exits.ensures)

pub link_neighbours-requires : goal.link_neighbours-requires
link_neighbours-requires c = omega (arith, c.requires.few, row_within c.args.layout.now.drawing.strands c.args.strand, ap length c.exits-exits.ensures)

pub spot-requires-clause-side : goal.spot-requires-clause-side
spot-requires-clause-side c = (exit_there c.args.layout.now.drawing (placed c.args.layout.now.drawing c.requires.embedded) c.args.strand _ _ _ c.exits-exits.ensures c.loop-at-test.true c.index-exits-at.is).0

pub spot-requires-clause-place : goal.spot-requires-clause-place
spot-requires-clause-place c =
    let there = exit_there c.args.layout.now.drawing (placed c.args.layout.now.drawing c.requires.embedded) c.args.strand _ _ _ c.exits-exits.ensures c.loop-at-test.true c.index-exits-at.is in
    omega (arith, there)

pub set_owner-requires-clause-side : goal.set_owner-requires-clause-side
set_owner-requires-clause-side c = (exit_there c.args.layout.now.drawing (placed c.args.layout.now.drawing c.requires.embedded) c.args.strand _ _ _ c.exits-exits.ensures c.loop-at-test.true c.index-exits-at.is).0

pub set_owner-requires-clause-place : goal.set_owner-requires-clause-place
set_owner-requires-clause-place c = (exit_there c.args.layout.now.drawing (placed c.args.layout.now.drawing c.requires.embedded) c.args.strand _ _ _ c.exits-exits.ensures c.loop-at-test.true c.index-exits-at.is).1

pub loop-at-preserved : goal.loop-at-preserved
loop-at-preserved c =
    let inv = c.loop-at.invariant in
    let d = c.args.layout.now.drawing in
    let gone = exit_gone d (is_gone c.args.gone.now) c.args.strand in
    let read = exit_gone_read d (is_gone c.args.gone.now) c.args.strand _ _ _ _ c.exits-exits.ensures c.loop-at-test.true c.index-exits-at.is c.spot.ensures.value in
    elim c.if-not-gone-spot.branch [
      | then-not-gone-spot w ↦ rw (w.way'-is, w.last-is) (record { linked = w.join.ensures gone inv.linked inv.gone_since; gone_since = between_near gone _ })
      | else-not-gone-spot w ↦ rw (w.way'-is, w.last-is) (record { linked = inv.linked; gone_since = between_more gone _ _ inv.gone_since (read ∙ w.if-not-gone-spot.false) })
    ]
