use Rattle.std.proofs.Common.{◌≡◌, ◌+◌, ◌<◌, ◌≤◌, ℕ, get_or}
use Rattle.page_surface.specs.Drawing.{offset}
use Rattle.drawing.specs.ThinTables.{AreNumbered, is_gone}
use Rattle.drawing.specs.Thinned.{places_kept}
use Rattle.drawing.proofs.thinning.number_side.Given as goal

-- the sides before and the points of this side so far are numbered
abbrev pub invariant-loop-old : goal.invariant-loop-old
invariant-loop-old l = record {
  place : l.place ≡ places_kept l.layout.drawing (is_gone l.gone) l.side l.old;
  most : l.place ≤ l.old;
  before : AreNumbered l.layout.drawing (is_gone l.gone) l.side l.places;
  here : (j : ℕ) → j < l.old → get_or l.places (offset l.layout.drawing l.side + j) 0 ≡ places_kept l.layout.drawing (is_gone l.gone) l.side j;
}
