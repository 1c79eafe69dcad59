use Rattle.std.proofs.Common.{◌≡◌, ◌≤◌, suc, map}
use Rattle.std.specs.List.{count_by}
use Rattle.obd_base.specs.Lists.{below}
use Rattle.dehn_twist.specs.Tables.{parts}
use Rattle.dehn_twist.proofs.meetings.crossed_by.Given as goal

-- the counts so far
abbrev pub invariant-loop-number : goal.invariant-loop-number
invariant-loop-number l = record {
  here : l.count ≡ count_by (parts l.mates l.fn.chord) (below l.number);
  within : l.count ≤ l.number;
  so_far : l.counts.items ≡ map (λ z. count_by (parts l.mates l.fn.chord) (below z)) (below (suc l.number));
}
