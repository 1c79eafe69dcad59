use Rattle.std.proofs.Common.{arith}
use Rattle.empty_domains.proofs.rules.point_keeps.Goals as goal

pub overflow_add-name : goal.overflow_add-name
overflow_add-name c = omega (arith, c.requires.few, c.requires.name, c.opposite-name.ensures.value)

pub mark-requires-clause-span : goal.mark-requires-clause-span
mark-requires-clause-span c = omega (arith, c.requires.name, c.opposite-name.ensures.value)

pub mark-requires-2-clause-span : goal.mark-requires-2-clause-span
mark-requires-2-clause-span c = omega (arith, c.requires.name, c.opposite-name.ensures.value)
