use Rattle.std.proofs.Common.{◌≡◌, true, nat_lt, take}
use Rattle.std.specs.List.{list_all}
use Rattle.page_surface.specs.Polygon.{sides}
use Rattle.obd_lines.proofs.exits.are_on_sides.Given as goal

-- the exits so far are on sides
abbrev pub invariant-loop-exit : goal.invariant-loop-exit
invariant-loop-exit l = list_all (λ e. nat_lt e.side (sides l.polygon)) (take l.exit-index l.exits) ≡ true
