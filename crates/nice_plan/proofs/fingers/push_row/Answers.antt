use Rattle.std.proofs.Common.{arith}
use Rattle.drawing.proofs.Lists.{mem_at}
use Rattle.nice_plan.proofs.fingers.push_row.Goals as goal

pub overflow_mul-row : goal.overflow_mul-row
overflow_mul-row c = omega (arith, c.requires.places _ (mem_at c.args.raised.now _ _ c.loop-entry-test.true c.entry-item.is))

pub overflow_add-row : goal.overflow_add-row
overflow_add-row c = omega (arith, c.requires.places _ (mem_at c.args.raised.now _ _ c.loop-entry-test.true c.entry-item.is))

pub overflow_add-row-in-loop-entry : goal.overflow_add-row-in-loop-entry
overflow_add-row-in-loop-entry c = omega (arith, c.requires.places _ (mem_at c.args.raised.now _ _ c.loop-entry-test.true c.entry-item.is))

pub overflow_add-entry : goal.overflow_add-entry
overflow_add-entry c = omega (arith, c.requires.places _ (mem_at c.args.raised.now _ _ c.loop-entry-test.true c.entry-item.is))
