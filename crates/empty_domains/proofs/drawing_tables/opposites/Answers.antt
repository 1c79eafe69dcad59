use Rattle.std.proofs.Common.{arith}
use Rattle.drawing.specs.Pieces.{span_count}
use Rattle.drawing.specs.Round.{opposite, side_of}
use Rattle.empty_domains.proofs.Made.{entries, entry_at}
use Rattle.region_table.proofs.ChordTables.{told_more}
use Rattle.empty_domains.proofs.drawing_tables.opposites.Goals as goal

pub overflow_cast-at : goal.overflow_cast-at
overflow_cast-at c = omega (arith, entries (side_of c.args.diagram.now) (span_count c.args.diagram.now) c.args.side.now c.requires.side, c.requires.few, c.loop-at-test.true)

pub opposite_at-requires-clause-at : goal.opposite_at-requires-clause-at
opposite_at-requires-clause-at c = omega (arith, entries (side_of c.args.diagram.now) (span_count c.args.diagram.now) c.args.side.now c.requires.side, c.loop-at-test.true)

pub opposite_at-requires-clause-side : goal.opposite_at-requires-clause-side
opposite_at-requires-clause-side c =
    entry_at (side_of c.args.diagram.now) (span_count c.args.diagram.now) c.args.side.now c.requires.side c.loop-at.at
    (omega (arith, entries (side_of c.args.diagram.now) (span_count c.args.diagram.now) c.args.side.now c.requires.side, c.loop-at-test.true))

pub loop-at-preserved : goal.loop-at-preserved
loop-at-preserved c = told_more (opposite c.args.diagram.now) c.loop-at.at _ _ _ c.loop-at.invariant c.opposite_at.ensures.value c.in_ok-push.ensures.items
