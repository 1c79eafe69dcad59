use Rattle.std.proofs.Common.{arith}
use Rattle.drawing.proofs.Ends.{placed}
use Rattle.drawing.proofs.StrandTables.{entry_there, exit_there}
use Rattle.drawing.proofs.nested.put_before.Goals as goal

pub entry-entry-requires-clause-side : goal.entry-entry-requires-clause-side
entry-entry-requires-clause-side c =
    (exit_there c.args.layout.now.drawing (placed c.args.layout.now.drawing c.requires.embedded) c.args.turn.now.strand _ _ _ c.exits-exits.ensures c.if-link-exits.true c.index-exits-link.is).0

pub entry-entry-requires-clause-place : goal.entry-entry-requires-clause-place
entry-entry-requires-clause-place c =
    (exit_there c.args.layout.now.drawing (placed c.args.layout.now.drawing c.requires.embedded) c.args.turn.now.strand _ _ _ c.exits-exits.ensures c.if-link-exits.true c.index-exits-link.is).1

pub spot-requires-clause-side : goal.spot-requires-clause-side
spot-requires-clause-side c =
    let there = exit_there c.args.layout.now.drawing (placed c.args.layout.now.drawing c.requires.embedded) c.args.turn.now.strand _ _ _ c.exits-exits.ensures c.if-link-exits.true c.index-exits-link.is in
    (entry_there c.args.layout.now.drawing (placed c.args.layout.now.drawing c.requires.embedded) _ _ there c.entry-entry.ensures).0

pub spot-requires-clause-place : goal.spot-requires-clause-place
spot-requires-clause-place c =
    let there = exit_there c.args.layout.now.drawing (placed c.args.layout.now.drawing c.requires.embedded) c.args.turn.now.strand _ _ _ c.exits-exits.ensures c.if-link-exits.true c.index-exits-link.is in
    let other = entry_there c.args.layout.now.drawing (placed c.args.layout.now.drawing c.requires.embedded) _ _ there c.entry-entry.ensures in
    omega (arith, other)
