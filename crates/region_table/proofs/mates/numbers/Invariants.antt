use Rattle.std.proofs.Common.{◌≡◌}
use Rattle.obd_base.specs.Lists.{below}
use Rattle.region_table.proofs.mates.numbers.Given as goal

-- the numbers so far
abbrev pub invariant-loop-number : goal.invariant-loop-number
invariant-loop-number l = l.numbers.items ≡ below l.number
