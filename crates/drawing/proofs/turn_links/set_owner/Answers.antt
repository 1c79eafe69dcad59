use Rattle.std.proofs.Common.{arith}
use Rattle.drawing.proofs.Ends.{placed}
use Rattle.drawing.proofs.StrandTables.{entry_there}
use Rattle.drawing.proofs.turn_links.set_owner.Goals as goal

pub spot-entry-requires-clause-place : goal.spot-entry-requires-clause-place
spot-entry-requires-clause-place c =
    let there = entry_there c.args.layout.now.drawing (placed c.args.layout.now.drawing c.requires.embedded) _ _ (c.requires.side, c.requires.place) c.entry.ensures in
    omega (arith, there)
