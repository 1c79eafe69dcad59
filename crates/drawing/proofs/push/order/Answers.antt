use Rattle.std.proofs.Common.{◌∙◌, ap, true, false}
use Rattle.page_surface.specs.Drawing.{spot}
use Rattle.drawing.proofs.Bordering.{order_from}
use Rattle.drawing.proofs.push.order.Goals as goal

pub returns-then-separates : goal.returns-then-separates
returns-then-separates c =
    order_from c.args.layout.now.drawing c.requires.embedded c.args.finger.now c.requires.legal _ _ _ _ c.chord_of-chord.ensures c.start.ensures
    (c.spot-segment.ensures.value ∙ ap (spot c.args.layout.now.drawing) c.segment_of.ensures) c.separates.ensures true c.if-separates.true

pub returns-else-separates : goal.returns-else-separates
returns-else-separates c =
    order_from c.args.layout.now.drawing c.requires.embedded c.args.finger.now c.requires.legal _ _ _ _ c.chord_of-chord.ensures c.start.ensures
    (c.spot-segment.ensures.value ∙ ap (spot c.args.layout.now.drawing) c.segment_of.ensures) c.separates.ensures false c.if-separates.false
