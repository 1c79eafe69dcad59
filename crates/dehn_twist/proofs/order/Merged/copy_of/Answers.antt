use Rattle.std.proofs.Common.{arith}
use Rattle.dehn_twist.proofs.OrderTables.{copy_fits}
use Rattle.dehn_twist.proofs.order.Merged.copy_of.Goals as goal

pub overflow_mul-place : goal.overflow_mul-place
overflow_mul-place c = let m = copy_fits _ _ c.polygon.ensures.taken _ _ _ c.requires.place c.requires.lines in omega (arith, m, c.requires.line, c.requires.lines)

pub overflow_add-place : goal.overflow_add-place
overflow_add-place c = let m = copy_fits _ _ c.polygon.ensures.taken _ _ _ c.requires.place c.requires.lines in omega (arith, m, c.requires.line, c.requires.lines)

pub overflow_mul-place-else-is_lower : goal.overflow_mul-place-else-is_lower
overflow_mul-place-else-is_lower c = let m = copy_fits _ _ c.polygon.ensures.taken _ _ _ c.requires.place c.requires.lines in omega (arith, m, c.requires.line, c.requires.lines)

pub overflow_add-place-else-is_lower : goal.overflow_add-place-else-is_lower
overflow_add-place-else-is_lower c = let m = copy_fits _ _ c.polygon.ensures.taken _ _ _ c.requires.place c.requires.lines in omega (arith, m, c.requires.line, c.requires.lines, c.points_on.ensures.few)

pub overflow_add-place-else-is_lower-2 : goal.overflow_add-place-else-is_lower-2
overflow_add-place-else-is_lower-2 c = let m = copy_fits _ _ c.polygon.ensures.taken _ _ _ c.requires.place c.requires.lines in omega (arith, m, c.requires.line, c.requires.lines, c.points_on.ensures.few)
