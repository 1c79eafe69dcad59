use Rattle.std.proofs.Common.{◌≡◌, drop}
use Rattle.mod2_rank.specs.PivotLines.{ascend_between}
use Rattle.mod2_rank.proofs.given_verdict.do_ascend.Given as goal

-- the numbers so far pass, so the others decide
abbrev pub invariant-loop-number : goal.invariant-loop-number
invariant-loop-number l = ascend_between 0 l.high l.numbers ≡ ascend_between l.low l.high (drop l.number-index l.numbers)
