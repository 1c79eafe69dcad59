use Rattle.std.proofs.Common.{◌∙◌, ap, arith}
use Rattle.page_surface.specs.Drawing.{strand_exits}
use Rattle.page_surface.specs.Polygon.{sides}
use Rattle.dehn_twist.proofs.OrderTables.{map_push, rows_all}
use Rattle.dehn_twist.proofs.counts.strand_rows.Goals as goal

pub loop-strand-preserved : goal.loop-strand-preserved
loop-strand-preserved c =
    map_push (strand_exits c.args.drawing.now.drawing) c.loop-strand.strand _ _ _ c.loop-strand.invariant
    (c.from_vec.ensures ∙ (c.in_ok-exits.ensures ∙ ap (strand_exits c.args.drawing.now.drawing) c.new.ensures)) c.in_ok-push.ensures.items

pub returns : goal.returns
returns c =
    rows_all c.args.drawing.now.drawing c.loop-strand.strand _ c.points.ensures.valid
    (omega (arith, c.loop-strand.auto, c.loop-strand-test.false, c.sides-strand-end.ensures.value, ap sides c.polygon.ensures)) c.loop-strand.invariant
