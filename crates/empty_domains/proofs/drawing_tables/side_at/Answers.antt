use Rattle.std.proofs.Common.{◌+◌, arith, sym}
use Rattle.empty_domains.proofs.Made.{side_found, side_next}
use Rattle.region_table.proofs.ChordTables.{starts_size}
use Rattle.empty_domains.proofs.drawing_tables.side_at.Goals as goal

pub bounds-starts-side : goal.bounds-starts-side
bounds-starts-side c = omega (arith, starts_size c.args.diagram.now c.args.starts.now c.requires.starts, c.loop-side.invariant.inside)

pub loop-side-preserved : goal.loop-side-preserved
loop-side-preserved c = record {
  inside = side_next c.args.diagram.now c.args.starts.now c.requires.starts c.args.at c.loop-side.side (c.loop-side.side + 1) c.requires.at c.loop-side.invariant.inside (omega arith) (omega (arith, c.loop-side-test.true));
  from = omega (arith, c.loop-side-test.true);
}

pub returns : goal.returns
returns c =
    sym (side_found c.args.diagram.now c.args.starts.now c.requires.starts c.args.at c.loop-side.side (c.loop-side.side + 1) c.loop-side.invariant.inside (omega arith) c.loop-side.invariant.from
    (omega (arith, c.loop-side-test.false)))
