use Rattle.std.proofs.Common.{◌≡◌, take}
use Rattle.witness_check.specs.BookRules.{numbered}
use Rattle.witness_check.proofs.twist_lines.numbered.Given as goal

-- the entries so far are those before this one
abbrev pub invariant-loop-twist : goal.invariant-loop-twist
invariant-loop-twist l = l.entries ≡ numbered l.curves (take l.twist-index l.twists)
