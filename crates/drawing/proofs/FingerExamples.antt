-- Worked fingers: the three that make the torus with two hexagons nice, one by one, and fingers that aren't legal.
use Rattle.std.proofs.Common.{◌≡◌, true, false, [], ◌∷◌, inl, refl}
use Rattle.page_surface.specs.Drawing.{Drawing, exit}
use Rattle.page_surface.proofs.Examples.{annulus_one_right_twist, torus, torus_two_hexagons}
use Rattle.drawing.specs.Fingers.{IsEffect, finger, is_legal, pushed}

-- the first finger
abbrev one_finger : Drawing
one_finger = record { polygon = torus; strands = (exit 3 0 ∷ exit 3 1 ∷ exit 3 2 ∷ exit 1 0 ∷ []) ∷ (exit 0 0 ∷ []) ∷ [] }

first_is_legal : is_legal torus_two_hexagons (finger 0 2 3 2) ≡ true
first_is_legal = refl

after_the_first : pushed torus_two_hexagons (finger 0 2 3 2) ≡ one_finger
after_the_first = refl

-- the second one
abbrev two_fingers : Drawing
two_fingers = record { polygon = torus; strands = (exit 3 0 ∷ exit 3 3 ∷ exit 3 4 ∷ exit 1 0 ∷ []) ∷ (exit 0 0 ∷ exit 3 1 ∷ exit 1 3 ∷ []) ∷ [] }

second_is_legal : is_legal one_finger (finger 1 1 3 1) ≡ true
second_is_legal = refl

after_the_second : pushed one_finger (finger 1 1 3 1) ≡ two_fingers
after_the_second = refl

-- and the third one
abbrev three_fingers : Drawing
three_fingers = record {
  polygon = torus;
  strands = (exit 3 0 ∷ exit 3 3 ∷ exit 3 6 ∷ exit 1 0 ∷ []) ∷ (exit 0 0 ∷ exit 3 1 ∷ exit 3 4 ∷ exit 1 2 ∷ exit 1 5 ∷ []) ∷ [];
}

third_is_legal : is_legal two_fingers (finger 1 2 3 4) ≡ true
third_is_legal = refl

after_the_third : pushed two_fingers (finger 1 2 3 4) ≡ three_fingers
after_the_third = refl

-- the second finger into another segment isn't legal
another_segment : is_legal one_finger (finger 1 1 3 2) ≡ false
another_segment = refl

-- where a side has no points, a finger of a strand that isn't there changes nothing, and so has an effect; legal it isn't
no_strand : IsEffect annulus_one_right_twist (finger 7 0 0 0) annulus_one_right_twist
no_strand = record { points = inl refl; embedded = refl }

no_strand_illegal : is_legal annulus_one_right_twist (finger 7 0 0 0) ≡ false
no_strand_illegal = refl
