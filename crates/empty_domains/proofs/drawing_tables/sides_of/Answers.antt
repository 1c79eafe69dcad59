use Rattle.drawing.specs.Round.{side_of}
use Rattle.region_table.proofs.ChordTables.{told_more}
use Rattle.empty_domains.proofs.drawing_tables.sides_of.Goals as goal

pub loop-at-preserved : goal.loop-at-preserved
loop-at-preserved c = told_more (side_of c.args.diagram.now) c.loop-at.at _ _ _ c.loop-at.invariant c.side_at.ensures c.in_ok-push.ensures.items
