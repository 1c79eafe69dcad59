-- Worked weights and names.
use Rattle.std.proofs.Common.{◌≡◌, true, false, [], ◌∷◌, length, map, refl}
use Rattle.page_surface.specs.Drawing.{Drawing, is_embedded}
use Rattle.page_surface.proofs.Examples.{annulus_one_left_twist, annulus_without_twist, chain_of_four_curves, torus_after_three_fingers, torus_five_and_one, torus_five_pairs, torus_right_left, torus_right_right, torus_two_hexagons, torus_without_twist}
use Rattle.drawing.specs.Fingers.{finger, pushed, replayed}
use Rattle.drawing.specs.Pieces.{pieces}
use Rattle.region_table.specs.Naming.{fresh_names}
use Rattle.region_table.specs.Nice.{is_nice, weight}
use Rattle.region_table.specs.Table.{badness_of, corners_of, region, told_weight}
use Rattle.region_table.proofs.FreshTable.{fresh_table}

-- these drawings are nice before any finger
annulus_without_twist_nice : is_nice annulus_without_twist ≡ true
annulus_without_twist_nice = refl

annulus_one_left_twist_nice : is_nice annulus_one_left_twist ≡ true
annulus_one_left_twist_nice = refl

torus_without_twist_nice : is_nice torus_without_twist ≡ true
torus_without_twist_nice = refl

torus_right_right_nice : is_nice torus_right_right ≡ true
torus_right_right_nice = refl

torus_right_left_nice : is_nice torus_right_left ≡ true
torus_right_left_nice = refl

torus_five_and_one_nice : is_nice torus_five_and_one ≡ true
torus_five_and_one_nice = refl

chain_of_four_curves_nice : is_nice chain_of_four_curves ≡ true
chain_of_four_curves_nice = refl

-- two hexagons at distance 1
torus_two_hexagons_weight : weight torus_two_hexagons ≡ 2
torus_two_hexagons_weight = refl

torus_two_hexagons_not_nice : is_nice torus_two_hexagons ≡ false
torus_two_hexagons_not_nice = refl

-- the first finger makes two squares of the first hexagon
torus_after_one_finger_weight : weight (pushed torus_two_hexagons (finger 0 2 3 2)) ≡ 1
torus_after_one_finger_weight = refl

-- the second alone moves the bad piece, and the third makes the drawing nice
torus_after_two_fingers_weight : weight (replayed torus_two_hexagons (finger 0 2 3 2 ∷ finger 1 1 3 1 ∷ [])) ≡ 1
torus_after_two_fingers_weight = refl

torus_after_three_fingers_weight : weight torus_after_three_fingers ≡ 0
torus_after_three_fingers_weight = refl

torus_after_three_fingers_nice : is_nice torus_after_three_fingers ≡ true
torus_after_three_fingers_nice = refl

-- two hexagons at distance 3
torus_five_pairs_weight : weight torus_five_pairs ≡ 6
torus_five_pairs_weight = refl

-- three chords pushed along one segment bring one hexagon nearer
abbrev pub torus_five_pairs_pushed : Drawing
torus_five_pairs_pushed = replayed torus_five_pairs (finger 0 2 3 4 ∷ finger 1 4 3 5 ∷ finger 0 8 3 6 ∷ [])

torus_five_pairs_pushed_embedded : is_embedded torus_five_pairs_pushed ≡ true
torus_five_pairs_pushed_embedded = refl

torus_five_pairs_pushed_weight : weight torus_five_pairs_pushed ≡ 5
torus_five_pairs_pushed_weight = refl

-- the names of the pieces at the spans, numbered as their first spans come
torus_two_hexagons_names : fresh_names torus_two_hexagons ≡ 0 ∷ 1 ∷ 2 ∷ 2 ∷ 1 ∷ 3 ∷ 4 ∷ 4 ∷ 3 ∷ 5 ∷ 5 ∷ 3 ∷ 1 ∷ 0 ∷ []
torus_two_hexagons_names = refl

torus_five_pairs_pieces : length (pieces torus_five_pairs) ≡ 14
torus_five_pairs_pieces = refl

-- the table made anew tells the weight
torus_two_hexagons_told_weight : told_weight (fresh_table torus_two_hexagons) ≡ 2
torus_two_hexagons_told_weight = refl

torus_two_hexagons_told_inner : (fresh_table torus_two_hexagons).inner ≡ 1 ∷ 3 ∷ []
torus_two_hexagons_told_inner = refl

-- each of its two hexagons has badness 1 and distance 1
torus_two_hexagons_badness : map (λ p. badness_of (region (fresh_table torus_two_hexagons) p)) (1 ∷ 3 ∷ []) ≡ 1 ∷ 1 ∷ []
torus_two_hexagons_badness = refl

torus_two_hexagons_distances : map (λ p. (region (fresh_table torus_two_hexagons) p).distance) (1 ∷ 3 ∷ []) ≡ 1 ∷ 1 ∷ []
torus_two_hexagons_distances = refl

-- one left twist of the annulus has two pieces that aren't base, both bigons
annulus_one_left_twist_corners : map (λ p. corners_of (region (fresh_table annulus_one_left_twist) p)) (fresh_table annulus_one_left_twist).inner ≡ 2 ∷ 2 ∷ []
annulus_one_left_twist_corners = refl
