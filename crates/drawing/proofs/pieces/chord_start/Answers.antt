use Rattle.std.proofs.Common.{◌≡◌, arith, le_refl}
use Rattle.page_surface.specs.Polygon.{second_side}
use Rattle.drawing.proofs.StrandTables.{entry_there}
use Rattle.drawing.proofs.SpanTests.{begins_first, begins_later, exit_before}
use Rattle.drawing.proofs.pieces.chord_start.Goals as goal

pub entry-requires-clause-side : goal.entry-requires-clause-side
entry-requires-clause-side c = (exit_before c.args.layout.now.drawing c.requires.placed c.args.strand _ _ _ c.if-chord-eq0.false c.requires.chord c.exits.ensures c.index-exits-chord.is).0

pub entry-requires-clause-place : goal.entry-requires-clause-place
entry-requires-clause-place c = (exit_before c.args.layout.now.drawing c.requires.placed c.args.strand _ _ _ c.if-chord-eq0.false c.requires.chord c.exits.ensures c.index-exits-chord.is).1

pub returns-then-chord-eq0-clause-place : goal.returns-then-chord-eq0-clause-place
returns-then-chord-eq0-clause-place c = rw c.end_of.ensures (le_refl _)

pub returns-then-chord-eq0-clause-value : goal.returns-then-chord-eq0-clause-value
returns-then-chord-eq0-clause-value c =
    let s : c.pair.result ≡ second_side c.args.layout.now.drawing.polygon c.args.strand = cc in
    begins_first c.args.layout.now.drawing c.args.strand c.args.chord _ _ c.if-chord-eq0.true s c.end_of.ensures

pub returns-else-chord-eq0-clause-side : goal.returns-else-chord-eq0-clause-side
returns-else-chord-eq0-clause-side c =
    let k = exit_before c.args.layout.now.drawing c.requires.placed c.args.strand _ _ _ c.if-chord-eq0.false c.requires.chord c.exits.ensures c.index-exits-chord.is in
    (entry_there c.args.layout.now.drawing c.requires.placed _ _ k c.entry.ensures).0

pub returns-else-chord-eq0-clause-place : goal.returns-else-chord-eq0-clause-place
returns-else-chord-eq0-clause-place c =
    let k = exit_before c.args.layout.now.drawing c.requires.placed c.args.strand _ _ _ c.if-chord-eq0.false c.requires.chord c.exits.ensures c.index-exits-chord.is in
    let there = entry_there c.args.layout.now.drawing c.requires.placed _ _ k c.entry.ensures in
    omega (arith, there)

pub returns-else-chord-eq0-clause-value : goal.returns-else-chord-eq0-clause-value
returns-else-chord-eq0-clause-value c = begins_later c.args.layout.now.drawing c.args.strand c.args.chord _ _ _ c.if-chord-eq0.false c.requires.chord c.exits.ensures c.index-exits-chord.is c.entry.ensures
