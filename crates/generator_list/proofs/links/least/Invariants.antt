use Rattle.std.proofs.Common.{◌<◌, ◌≤◌, ℕ, get_or}
use Rattle.obd_base.specs.Lists.{Mem}
use Rattle.generator_list.proofs.links.least.Given as goal

-- the least of the numbers so far
abbrev pub invariant-loop-number : goal.invariant-loop-number
invariant-loop-number l = record {
  each : (k : ℕ) → k < l.number-index → l.least ≤ get_or l.numbers k 0;
  one : Mem l.least l.numbers;
}
