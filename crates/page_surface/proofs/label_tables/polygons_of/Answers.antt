use Rattle.page_surface.proofs.SideTables.{all_set}
use Rattle.page_surface.proofs.label_tables.polygons_of.Goals as goal

pub returns : goal.returns
returns c =
    all_set c.args.polygons.now c.args.occurrence c.loop-polygon.table.items c.args.label_count c.loop-polygon.polygon c.loop-polygon.invariant.size c.loop-polygon-test.false
    c.loop-polygon.invariant.first
