use Rattle.std.proofs.Common.{◌≡◌, ◌≤◌, ◌+◌, not, map, take}
use Rattle.std.specs.List.{count_by}
use Rattle.obd_base.specs.Lists.{below}
use Rattle.handle_slide.proofs.points.staying.Given as goal

-- the points so far
abbrev pub invariant-loop-goes : goal.invariant-loop-goes
invariant-loop-goes l =
    (l.counts.items ≡ map (λ n. count_by not (take n l.marks)) (below (l.goes-index + 1)))
    × (l.count ≡ count_by not (take l.goes-index l.marks))
    × (l.count ≤ l.goes-index)
