-- Worked searches: the strands of the points, beginnings that are left, and what is found.
use Rattle.std.proofs.Common.{◌≡◌, true, false, [], ◌∷◌, length, refl}
use Rattle.page_surface.proofs.Examples.{torus_after_three_fingers, torus_two_hexagons, torus_without_twist}
use Rattle.generator_list.specs.Search.{all_strands, chosen, goes_on}

-- each strand crosses its own arc alone, so every list of points is found
torus_without_twist_strands : all_strands torus_without_twist ≡ (0 ∷ 0 ∷ []) ∷ (1 ∷ 1 ∷ []) ∷ []
torus_without_twist_strands = refl

torus_without_twist_found : chosen (all_strands torus_without_twist) 0 [] ≡ (0 ∷ 0 ∷ []) ∷ (0 ∷ 1 ∷ []) ∷ (1 ∷ 0 ∷ []) ∷ (1 ∷ 1 ∷ []) ∷ []
torus_without_twist_found = refl

-- here some pairs of points are on one strand
torus_two_hexagons_strands : all_strands torus_two_hexagons ≡ (1 ∷ 0 ∷ []) ∷ (0 ∷ 0 ∷ 1 ∷ []) ∷ []
torus_two_hexagons_strands = refl

torus_two_hexagons_found : chosen (all_strands torus_two_hexagons) 0 [] ≡ (0 ∷ 0 ∷ []) ∷ (0 ∷ 1 ∷ []) ∷ (1 ∷ 2 ∷ []) ∷ []
torus_two_hexagons_found = refl

-- where the second arc meets strand 0 alone, a point of the first arc on strand 0 is left at once, and one on strand 1 goes on
beginning_without_end_is_left : goes_on ((0 ∷ 0 ∷ []) ∷ []) 0 0 ≡ false
beginning_without_end_is_left = refl

beginning_with_an_end_goes_on : goes_on ((0 ∷ 0 ∷ []) ∷ []) 0 1 ≡ true
beginning_with_an_end_goes_on = refl

-- after three fingers there are nine
torus_after_three_fingers_count : length (chosen (all_strands torus_after_three_fingers) 0 []) ≡ 9
torus_after_three_fingers_count = refl
