use Rattle.handle_slide.proofs.SideTables.{ArePlaces}
use Rattle.handle_slide.proofs.sides.places_in.Given as goal

-- the places so far
abbrev pub invariant-loop-place : goal.invariant-loop-place
invariant-loop-place l = ArePlaces l.order l.place l.places.items
