use Rattle.std.proofs.Common.{◌≡◌, suc, ◌+◌, ◌*◌, ◌≤◌, map, get_or}
use Rattle.std.specs.List.{sum_by}
use Rattle.obd_base.specs.Lists.{below}
use Rattle.dehn_twist.proofs.counts.starts.Given as goal

-- where the sides so far begin, and the next one
abbrev pub invariant-loop-side : goal.invariant-loop-side
invariant-loop-side l = record {
  here : l.start ≡ sum_by (λ i. get_or l.counts i 0 + get_or l.points i 0 + 2) (below l.side);
  within : l.start ≤ 8066 * l.side;
  so_far : l.starts.items ≡ map (λ k. sum_by (λ i. get_or l.counts i 0 + get_or l.points i 0 + 2) (below k)) (below (suc l.side));
}
