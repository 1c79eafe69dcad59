use Rattle.std.proofs.Common.{◌≡◌, ◌≤◌, get_or}
use Rattle.region_table.specs.Counted.{size_so_far}
use Rattle.region_table.proofs.asked.count_of.Given as goal

-- how many of the spans so far have the name
abbrev pub invariant-loop-at : goal.invariant-loop-at
invariant-loop-at l = record {
  counted : l.count ≡ size_so_far (λ s. get_or l.names s 0) l.at l.name;
  few : l.count ≤ l.at;
}
