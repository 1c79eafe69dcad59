use Rattle.drawing.proofs.SweepTables.{numbers_more}
use Rattle.region_table.proofs.mates.numbers.Goals as goal

pub loop-number-preserved : goal.loop-number-preserved
loop-number-preserved c = numbers_more c.loop-number.number _ _ c.loop-number.invariant c.in_ok-push.ensures.items
