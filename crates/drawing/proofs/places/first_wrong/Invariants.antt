use Rattle.std.proofs.Common.{◌≡◌, true}
use Rattle.std.specs.List.{list_all}
use Rattle.obd_base.specs.Lists.{below}
use Rattle.page_surface.specs.Drawing.{right_on}
use Rattle.drawing.proofs.places.first_wrong.Given as goal

-- the sides so far are right
abbrev pub invariant-loop-number : goal.invariant-loop-number
invariant-loop-number l = list_all (right_on l.layout.drawing) (below l.number) ≡ true
