use Rattle.std.proofs.Common.{◌≡◌, arith, le_refl, length, ap}
use Rattle.page_surface.specs.Polygon.{first_side}
use Rattle.drawing.proofs.StrandTables.{exit_there}
use Rattle.drawing.proofs.SpanTests.{ends_exit, ends_strand}
use Rattle.drawing.proofs.pieces.chord_end.Goals as goal

pub returns-then-chord-exits-clause-side : goal.returns-then-chord-exits-clause-side
returns-then-chord-exits-clause-side c = (exit_there c.args.layout.now.drawing c.requires.placed c.args.strand _ _ _ c.exits-exits.ensures c.if-chord-exits.true c.index-exits-chord.is).0

pub returns-then-chord-exits-clause-place : goal.returns-then-chord-exits-clause-place
returns-then-chord-exits-clause-place c =
    let k = exit_there c.args.layout.now.drawing c.requires.placed c.args.strand _ _ _ c.exits-exits.ensures c.if-chord-exits.true c.index-exits-chord.is in
    omega (arith, k)

pub returns-then-chord-exits-clause-value : goal.returns-then-chord-exits-clause-value
returns-then-chord-exits-clause-value c = ends_exit c.args.layout.now.drawing c.args.strand c.args.chord _ _ c.if-chord-exits.true c.exits-exits.ensures c.index-exits-chord.is

pub returns-else-chord-exits-clause-place : goal.returns-else-chord-exits-clause-place
returns-else-chord-exits-clause-place c = rw c.end_of.ensures (le_refl _)

pub returns-else-chord-exits-clause-value : goal.returns-else-chord-exits-clause-value
returns-else-chord-exits-clause-value c =
    let f : c.first_side.result ≡ first_side c.args.layout.now.drawing.polygon c.args.strand = cc in
    let n : c.args.chord ≡ length c.exits-exits.result.now = omega (arith, c.requires.chord, c.if-chord-exits.false, ap length c.exits-exits.ensures) in
    ends_strand c.args.layout.now.drawing c.args.strand c.args.chord _ _ _ n c.exits-exits.ensures f c.end_of.ensures
