-- Worked columns.
use Rattle.std.proofs.Common.{◌≡◌, [], ◌∷◌, length, refl}
use Rattle.page_surface.proofs.Examples.{annulus_one_left_twist, annulus_one_right_twist, annulus_two_right_twists, annulus_without_twist, chain_of_four_curves, torus_after_three_fingers, torus_five_and_one, torus_right_left, torus_right_right, torus_without_twist}
use Rattle.hkm_diagram.specs.Domains.{columns, domains}

-- without a twist: two bigons that cancel
annulus_without_twist_bigons : domains annulus_without_twist (0 ∷ []) (1 ∷ []) ≡ (4 ∷ []) ∷ (1 ∷ []) ∷ []
annulus_without_twist_bigons = refl

annulus_without_twist_columns : columns annulus_without_twist ≡ [] ∷ [] ∷ []
annulus_without_twist_columns = refl

-- the contact generator alone
annulus_one_right_twist_columns : columns annulus_one_right_twist ≡ [] ∷ []
annulus_one_right_twist_columns = refl

-- one bigon from each of the two crossing points to the contact point
annulus_one_left_twist_columns : columns annulus_one_left_twist ≡ (2 ∷ []) ∷ (2 ∷ []) ∷ [] ∷ []
annulus_one_left_twist_columns = refl

-- the one square has each of two points as corner twice and is no domain
annulus_two_right_twists_columns : columns annulus_two_right_twists ≡ [] ∷ [] ∷ []
annulus_two_right_twists_columns = refl

torus_without_twist_columns : columns torus_without_twist ≡ [] ∷ [] ∷ [] ∷ [] ∷ []
torus_without_twist_columns = refl

torus_right_right_columns : columns torus_right_right ≡ [] ∷ []
torus_right_right_columns = refl

torus_right_left_columns : columns torus_right_left ≡ (2 ∷ []) ∷ (2 ∷ []) ∷ [] ∷ []
torus_right_left_columns = refl

torus_five_and_one_columns : columns torus_five_and_one ≡ [] ∷ [] ∷ [] ∷ [] ∷ [] ∷ []
torus_five_and_one_columns = refl

chain_of_four_curves_columns : columns chain_of_four_curves ≡ [] ∷ []
chain_of_four_curves_columns = refl

-- the two hexagons after three fingers: a bigon and a square from the first generator
bigon_to_second : length (domains torus_after_three_fingers (0 ∷ 0 ∷ []) (0 ∷ 1 ∷ [])) ≡ 1
bigon_to_second = refl

square_to_contact : length (domains torus_after_three_fingers (0 ∷ 0 ∷ []) (1 ∷ 8 ∷ [])) ≡ 1
square_to_contact = refl

-- a rectangle of two squares, and a bigon of one bigon and one square
rectangle : length (domains torus_after_three_fingers (0 ∷ 4 ∷ []) (1 ∷ 3 ∷ [])) ≡ 1
rectangle = refl

bigon_of_two : length (domains torus_after_three_fingers (1 ∷ 5 ∷ []) (1 ∷ 6 ∷ [])) ≡ 1
bigon_of_two = refl

-- the whole table
torus_after_three_fingers_columns : columns torus_after_three_fingers ≡ (1 ∷ 8 ∷ []) ∷ [] ∷ (5 ∷ []) ∷ (7 ∷ []) ∷ (5 ∷ []) ∷ [] ∷ (7 ∷ []) ∷ [] ∷ [] ∷ []
torus_after_three_fingers_columns = refl
