use Rattle.std.proofs.Common.{◌≡◌, ◌++◌, decimal, map, take}
use Rattle.witness_check.specs.Line.{spaced}
use Rattle.obd_cli.proofs.refused.put_numbers.Given as goal

-- the numbers so far were appended
abbrev pub invariant-loop-number : goal.invariant-loop-number
invariant-loop-number l = l.text ≡ l.initial.text ++ spaced (map decimal (take l.number-index l.numbers))
