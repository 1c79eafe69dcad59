use Rattle.std.proofs.Common.{arith}
use Rattle.drawing.proofs.StrandTables.{entry_there}
use Rattle.drawing.proofs.turns.take_point.Goals as goal

pub spot-requires-2-clause-place : goal.spot-requires-2-clause-place
spot-requires-2-clause-place c =
    let there = entry_there c.args.layout.now.drawing c.requires.placed _ _ (c.requires.side, c.requires.place) c.entry.ensures in
    omega (arith, there)
