use Rattle.std.proofs.Common.{◌+◌, arith}
use Rattle.empty_domains.proofs.Made.{points_read}
use Rattle.region_table.proofs.ChordTables.{starts_size}
use Rattle.empty_domains.proofs.drawing_tables.points_on.Goals as goal

pub bounds-starts-side : goal.bounds-starts-side
bounds-starts-side c = omega (arith, starts_size c.args.diagram.now c.args.starts.now c.requires.starts, c.requires.side)

pub bounds-starts-side-2 : goal.bounds-starts-side-2
bounds-starts-side-2 c = omega (arith, starts_size c.args.diagram.now c.args.starts.now c.requires.starts, c.requires.side)

pub overflow_sub-result : goal.overflow_sub-result
overflow_sub-result c = omega (arith, points_read c.args.diagram.now c.args.starts.now c.requires.starts c.args.side (c.args.side + 1) c.requires.side (omega arith))

pub overflow_sub-result-2 : goal.overflow_sub-result-2
overflow_sub-result-2 c = omega (arith, points_read c.args.diagram.now c.args.starts.now c.requires.starts c.args.side (c.args.side + 1) c.requires.side (omega arith))

pub returns : goal.returns
returns c = omega (arith, points_read c.args.diagram.now c.args.starts.now c.requires.starts c.args.side (c.args.side + 1) c.requires.side (omega arith))
