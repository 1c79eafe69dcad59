-- A drawing with a turn on the annulus, and without it.
use Rattle.std.proofs.Common.{◌≡◌, true, false, [], ◌∷◌, refl, inl, arith}
use Rattle.page_surface.specs.Drawing.{Drawing, exit, is_embedded, identity}
use Rattle.page_surface.proofs.Examples.{annulus}
use Rattle.drawing.specs.Thinned.{thinned, turn_gone}
use Rattle.drawing.specs.Turns.{IsTurn, without_turn}

-- the strand goes out, comes back and goes out again
abbrev annulus_with_turn : Drawing
annulus_with_turn = record { polygon = annulus; strands = (exit 1 2 ∷ exit 0 1 ∷ exit 1 0 ∷ []) ∷ [] }

-- it is embedded
annulus_with_turn_embedded : is_embedded annulus_with_turn ≡ true
annulus_with_turn_embedded = refl

-- its first two exits are a turn
annulus_turn : IsTurn annulus_with_turn 0 [] (exit 1 2) (exit 0 1) (exit 1 0 ∷ [])
annulus_turn = record { arc = omega arith; splits = refl; turns = record { returns = refl; neighbours = inl refl } }

-- without it the strand crosses its arc once
annulus_without_turn : without_turn annulus_with_turn 0 [] (exit 1 2) (exit 0 1) (exit 1 0 ∷ []) ≡ identity annulus
annulus_without_turn = refl

-- and the same where its points are taken out
annulus_thinned : thinned annulus_with_turn (turn_gone annulus_with_turn (exit 1 2) (exit 0 1) (λ x. false)) ≡ identity annulus
annulus_thinned = refl
