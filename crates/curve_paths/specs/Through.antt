-- A curve on a page, joined.
use Rattle.std.specs.Prelude.{List, position, Option, option_map, filter_map}
use Rattle.obd_base.specs.declared.points.Exit.{Exit}
use Rattle.page_surface.specs.Drawing.{exit}
use Rattle.page_surface.specs.Joining.{Joined, is_side, joined}
use Rattle.page_surface.specs.Labels.{Label}
use Rattle.arc_basis.specs.Basis.{joined_sides}
use Rattle.curve_paths.specs.declared.path.Cross.{Cross}
use Rattle.curve_paths.specs.declared.crossing.Crossing.{Crossing}
use Rattle.curve_paths.specs.Paths.{crossings, place_on}

-- the exit that a crossing becomes: the side that is left, and the place on it; none where the label is a seam
abbrev pub exit_through : Joined → List Crossing → Crossing → Option Exit
exit_through j cs c = option_map (λ s. exit s (place_on cs c.side c.place)) (position (is_side c.side) (joined_sides j))

-- the exits of the crossings that aren't with seams, in order
abbrev pub exits_through : List (List Label) → List Cross → List Exit
exits_through page path = let cs = crossings page path in filter_map (exit_through (joined page) cs) cs
