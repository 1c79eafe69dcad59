use Rattle.std.proofs.Common.{◌∙◌, ap, arith}
use Rattle.page_surface.specs.Drawing.{spot}
use Rattle.drawing.proofs.StrandTables.{entry_there, exit_there, set_both}
use Rattle.drawing.proofs.strands.set_strand.Goals as goal

pub spot-requires-clause-side : goal.spot-requires-clause-side
spot-requires-clause-side c = (exit_there c.args.layout.now.drawing c.requires.placed c.args.strand _ _ _ c.exits-exit-items.ensures c.loop-exit-test.true c.exit-item.is).0

pub spot-requires-clause-place : goal.spot-requires-clause-place
spot-requires-clause-place c =
    let k = exit_there c.args.layout.now.drawing c.requires.placed c.args.strand _ _ _ c.exits-exit-items.ensures c.loop-exit-test.true c.exit-item.is in
    omega (arith, k)

pub entry-requires-clause-side : goal.entry-requires-clause-side
entry-requires-clause-side c = (exit_there c.args.layout.now.drawing c.requires.placed c.args.strand _ _ _ c.exits-exit-items.ensures c.loop-exit-test.true c.exit-item.is).0

pub entry-requires-clause-place : goal.entry-requires-clause-place
entry-requires-clause-place c = (exit_there c.args.layout.now.drawing c.requires.placed c.args.strand _ _ _ c.exits-exit-items.ensures c.loop-exit-test.true c.exit-item.is).1

pub spot-requires-in-loop-exit-clause-side : goal.spot-requires-in-loop-exit-clause-side
spot-requires-in-loop-exit-clause-side c =
    let k = exit_there c.args.layout.now.drawing c.requires.placed c.args.strand _ _ _ c.exits-exit-items.ensures c.loop-exit-test.true c.exit-item.is in
    (entry_there c.args.layout.now.drawing c.requires.placed _ _ k c.entry.ensures).0

pub spot-requires-in-loop-exit-clause-place : goal.spot-requires-in-loop-exit-clause-place
spot-requires-in-loop-exit-clause-place c =
    let k = exit_there c.args.layout.now.drawing c.requires.placed c.args.strand _ _ _ c.exits-exit-items.ensures c.loop-exit-test.true c.exit-item.is in
    let r = entry_there c.args.layout.now.drawing c.requires.placed _ _ k c.entry.ensures in
    omega (arith, r)

pub loop-exit-preserved : goal.loop-exit-preserved
loop-exit-preserved c =
    set_both c.args.layout.now.drawing _ _ _ _ _ _ _ _ c.loop-exit-test.true c.exit-item.is c.spot.ensures.value
    (c.spot-in-loop-exit.ensures.value ∙ ap (spot c.args.layout.now.drawing) c.entry.ensures) c.loop-exit.invariant c.loop-exit.auto.table
