use Rattle.std.proofs.Common.{◌∙◌, ap}
use Rattle.page_surface.specs.Polygon.{arc}
use Rattle.region_table.proofs.ChordTables.{told_more}
use Rattle.empty_domains.proofs.drawing_tables.side_arcs.Goals as goal

pub loop-side-preserved : goal.loop-side-preserved
loop-side-preserved c =
    told_more (arc c.args.polygon.now) c.loop-side.side _ _ _ c.loop-side.invariant
    (c.number.ensures.value ∙ (c.arc.ensures ∙ ap (arc c.args.polygon.now) c.new.ensures)) c.in_ok-push.ensures.items
