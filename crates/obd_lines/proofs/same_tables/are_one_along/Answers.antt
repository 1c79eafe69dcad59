use Rattle.std.proofs.Common.{arith}
use Rattle.region_table.proofs.TableReads.{points_are, sides_are}
use Rattle.obd_lines.proofs.same_tables.are_one_along.Goals as goal

pub piece_at-piece-requires-clause-segment : goal.piece_at-piece-requires-clause-segment
piece_at-piece-requires-clause-segment c =
    let d = c.args.drawing.now.drawing in
    let t = c.args.one.now in
    let points = points_are d t c.requires.table c.args.side (omega (arith, c.requires.side, sides_are d t c.requires.table)) in
    omega (arith, points, c.points_on-segment-end.ensures.value, c.loop-segment-test.true)

pub piece_at-same-requires-clause-segment : goal.piece_at-same-requires-clause-segment
piece_at-same-requires-clause-segment c =
    let d = c.args.drawing.now.drawing in
    let t = c.args.other.now in
    let points = points_are d t c.requires.other c.args.side (omega (arith, c.requires.side, sides_are d t c.requires.other)) in
    omega (arith, points, c.points_on-segment-end.ensures.value, c.loop-segment-test.true)
