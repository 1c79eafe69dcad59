use Rattle.std.proofs.Common.{◌<◌, All}
use Rattle.page_surface.specs.Polygon.{sides}
use Rattle.obd_lines.proofs.words.sides_of.Given as goal

-- the word so far has sides of the polygon
abbrev pub invariant-loop-side : goal.invariant-loop-side
invariant-loop-side l = All (λ s. s < sides l.polygon) l.word.items
