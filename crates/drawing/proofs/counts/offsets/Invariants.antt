use Rattle.std.proofs.Common.{◌≡◌, suc, ◌+◌, map, take}
use Rattle.std.specs.List.{sum_by}
use Rattle.obd_base.specs.Lists.{below}
use Rattle.drawing.proofs.counts.offsets.Given as goal

-- where the sides so far begin, and the next one
abbrev pub invariant-loop-count : goal.invariant-loop-count
invariant-loop-count l = record {
  here : l.offset ≡ sum_by (λ count. count + 2) (take l.count-index l.counts);
  so_far : l.offsets.items ≡ map (λ k. sum_by (λ count. count + 2) (take k l.counts)) (below (suc l.count-index));
}
