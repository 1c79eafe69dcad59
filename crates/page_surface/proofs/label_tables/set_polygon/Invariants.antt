use Rattle.std.proofs.Common.{◌≡◌, ℕ, ◌<◌, cond, length, get_or, take}
use Rattle.page_surface.specs.Joining.{has_side, side}
use Rattle.page_surface.proofs.label_tables.set_polygon.Given as goal

-- the polygon is set at the labels of the sides so far
abbrev pub invariant-loop-side : goal.invariant-loop-side
invariant-loop-side l =
    (label : ℕ) → label < length l.fn.table
    → get_or l.table label 0 ≡ cond (has_side (side label l.occurrence) (take l.side-index l.sides)) l.polygon (get_or l.fn.table label 0)
