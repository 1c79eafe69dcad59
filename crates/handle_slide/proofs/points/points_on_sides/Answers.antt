use Rattle.std.proofs.Common.{◌<◌, ◌+◌, set, get_or, ◌∙◌, ap, arith}
use Rattle.page_surface.specs.Polygon.{sides}
use Rattle.handle_slide.proofs.PointTables.{counted_all, counted_more}
use Rattle.handle_slide.proofs.points.points_on_sides.Goals as goal

pub loop-exit-preserved : goal.loop-exit-preserved
loop-exit-preserved c =
    let l = c.requires.in_range c.loop-exit.exit-index c.exit-item.result (omega (arith, c.loop-exit-test.true)) in
    let ls : c.exit-item.result.side < sides c.args.polygon.now = rw c.exit-item.is l in
    counted_more c.args.polygon.now c.args.exits.now c.loop-exit.exit-index c.exit-item.result c.loop-exit.counts.items (omega (arith, c.loop-exit-test.true)) c.exit-item.is ls
    (c.sides.ensures.valid.pairs.in_range c.exit-item.result.side ls) c.loop-exit.invariant c.count_point.new.counts.items c.count_point-in-loop-exit.new.counts.items c.count_point.ensures
    (c.count_point-in-loop-exit.ensures ∙ ap (λ s. set c.count_point.new.counts.items s (get_or c.count_point.new.counts.items s 0 + 1)) c.pair.ensures)

pub returns : goal.returns
returns c = counted_all c.args.polygon.now c.args.exits.now c.loop-exit.exit-index c.loop-exit.counts.items (omega (arith, c.loop-exit-test.false)) c.loop-exit.invariant
