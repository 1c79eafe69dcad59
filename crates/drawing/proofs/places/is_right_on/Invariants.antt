use Rattle.std.proofs.Common.{◌≡◌, true}
use Rattle.std.specs.List.{list_all}
use Rattle.obd_base.specs.Lists.{below}
use Rattle.drawing.proofs.Hits.{met_once}
use Rattle.drawing.proofs.places.is_right_on.Given as goal

-- the points so far are met once
abbrev pub invariant-loop-place : goal.invariant-loop-place
invariant-loop-place l = list_all (met_once l.layout.drawing l.fn.side) (below l.place) ≡ true
