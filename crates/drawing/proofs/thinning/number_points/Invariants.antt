use Rattle.drawing.specs.ThinTables.{AreNumbered, is_gone}
use Rattle.drawing.proofs.thinning.number_points.Given as goal

-- the sides so far are numbered
abbrev pub invariant-loop-side : goal.invariant-loop-side
invariant-loop-side l = AreNumbered l.layout.drawing (is_gone l.gone) l.side l.places
