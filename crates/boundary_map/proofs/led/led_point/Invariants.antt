use Rattle.std.proofs.Common.{◌≡◌, ℕ, ◌<◌, false}
use Rattle.boundary_map.specs.Sets.{firsts, leads_into}
use Rattle.drawing.specs.Pieces.{piece_table}
use Rattle.boundary_map.proofs.led.led_point.Given as goal

-- the set leads into none of the points so far
abbrev pub invariant-loop-number : goal.invariant-loop-number
invariant-loop-number l = (j : ℕ) → j < l.number → leads_into l.diagram (piece_table l.diagram) (firsts l.regions l.set) l.fn.arc j ≡ false
