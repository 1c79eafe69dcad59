use Rattle.std.proofs.Common.{arith}
use Rattle.region_table.proofs.TableReads.{points_are, sides_are}
use Rattle.obd_lines.proofs.regions.put_side.Goals as goal

pub piece_at-requires-clause-segment : goal.piece_at-requires-clause-segment
piece_at-requires-clause-segment c =
    let d = c.args.drawing.now.drawing in
    let t = c.args.regions.now in
    let points = points_are d t c.requires.table c.args.side (omega (arith, c.requires.side, sides_are d t c.requires.table)) in
    omega (arith, points, c.points_on-segment-end.ensures.value, c.loop-segment-test.true)
