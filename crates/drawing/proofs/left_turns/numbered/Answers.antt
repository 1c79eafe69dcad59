use Rattle.std.proofs.Common.{arith}
use Rattle.drawing.proofs.StrandTables.{entry_there}
use Rattle.drawing.proofs.TurnAt.{back_there, out_there}
use Rattle.drawing.proofs.left_turns.numbered.Goals as goal

pub entry-entry-requires-clause-side : goal.entry-entry-requires-clause-side
entry-entry-requires-clause-side c = (out_there c.args.layout.now.drawing c.requires.placed c.args.strand c.args.at c.args.next c.requires.follows c.requires.inside _ c.exits-exits.ensures _ c.index-exits-at.is).0

pub entry-entry-requires-clause-place : goal.entry-entry-requires-clause-place
entry-entry-requires-clause-place c = (out_there c.args.layout.now.drawing c.requires.placed c.args.strand c.args.at c.args.next c.requires.follows c.requires.inside _ c.exits-exits.ensures _ c.index-exits-at.is).1

pub spot-requires-clause-side : goal.spot-requires-clause-side
spot-requires-clause-side c = (out_there c.args.layout.now.drawing c.requires.placed c.args.strand c.args.at c.args.next c.requires.follows c.requires.inside _ c.exits-exits.ensures _ c.index-exits-at.is).0

pub spot-requires-clause-place : goal.spot-requires-clause-place
spot-requires-clause-place c = let there = (out_there c.args.layout.now.drawing c.requires.placed c.args.strand c.args.at c.args.next c.requires.follows c.requires.inside _ c.exits-exits.ensures _ c.index-exits-at.is) in omega (arith, there)

pub spot-requires-then-eq-clause-side : goal.spot-requires-then-eq-clause-side
spot-requires-then-eq-clause-side c = (entry_there c.args.layout.now.drawing c.requires.placed _ _ (out_there c.args.layout.now.drawing c.requires.placed c.args.strand c.args.at c.args.next c.requires.follows c.requires.inside _ c.exits-exits.ensures _ c.index-exits-at.is) c.entry-entry.ensures).0

pub spot-requires-then-eq-clause-place : goal.spot-requires-then-eq-clause-place
spot-requires-then-eq-clause-place c = let there = (entry_there c.args.layout.now.drawing c.requires.placed _ _ (out_there c.args.layout.now.drawing c.requires.placed c.args.strand c.args.at c.args.next c.requires.follows c.requires.inside _ c.exits-exits.ensures _ c.index-exits-at.is) c.entry-entry.ensures) in omega (arith, there)

pub spot-requires-then-eq-2-clause-side : goal.spot-requires-then-eq-2-clause-side
spot-requires-then-eq-2-clause-side c = (back_there c.args.layout.now.drawing c.requires.placed c.args.strand c.args.at c.args.next c.requires.follows c.requires.inside _ c.exits-exits.ensures _ c.index-exits-next.is).0

pub spot-requires-then-eq-2-clause-place : goal.spot-requires-then-eq-2-clause-place
spot-requires-then-eq-2-clause-place c = let there = (back_there c.args.layout.now.drawing c.requires.placed c.args.strand c.args.at c.args.next c.requires.follows c.requires.inside _ c.exits-exits.ensures _ c.index-exits-next.is) in omega (arith, there)

pub entry-requires-clause-side : goal.entry-requires-clause-side
entry-requires-clause-side c = (back_there c.args.layout.now.drawing c.requires.placed c.args.strand c.args.at c.args.next c.requires.follows c.requires.inside _ c.exits-exits.ensures _ c.index-exits-next.is).0

pub entry-requires-clause-place : goal.entry-requires-clause-place
entry-requires-clause-place c = (back_there c.args.layout.now.drawing c.requires.placed c.args.strand c.args.at c.args.next c.requires.follows c.requires.inside _ c.exits-exits.ensures _ c.index-exits-next.is).1

pub spot-requires-then-eq-3-clause-side : goal.spot-requires-then-eq-3-clause-side
spot-requires-then-eq-3-clause-side c = (entry_there c.args.layout.now.drawing c.requires.placed _ _ (back_there c.args.layout.now.drawing c.requires.placed c.args.strand c.args.at c.args.next c.requires.follows c.requires.inside _ c.exits-exits.ensures _ c.index-exits-next.is) c.entry.ensures).0

pub spot-requires-then-eq-3-clause-place : goal.spot-requires-then-eq-3-clause-place
spot-requires-then-eq-3-clause-place c = let there = (entry_there c.args.layout.now.drawing c.requires.placed _ _ (back_there c.args.layout.now.drawing c.requires.placed c.args.strand c.args.at c.args.next c.requires.follows c.requires.inside _ c.exits-exits.ensures _ c.index-exits-next.is) c.entry.ensures) in omega (arith, there)
