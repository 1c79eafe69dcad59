-- Worked sets, targets and columns.
use Rattle.std.proofs.Common.{◌≡◌, [], ◌∷◌, map, refl}
use Rattle.boundary_map.specs.Sets.{chosen, led_to}
use Rattle.boundary_map.specs.Tried.{domain_count}
use Rattle.drawing.specs.Pieces.{inner_pieces, piece_table}
use Rattle.drawing.specs.Points.{contact_generator, generators}
use Rattle.obd_base.specs.Lists.{below, parts}
use Rattle.page_surface.proofs.Examples.{annulus_two_right_twists, annulus_without_twist, torus_right_left}

-- the numbered parts of three members
parts_of_three : map (chosen (7 ∷ 8 ∷ 9 ∷ [])) (below 8) ≡ [] ∷ (9 ∷ []) ∷ (8 ∷ []) ∷ (8 ∷ 9 ∷ []) ∷ (7 ∷ []) ∷ (7 ∷ 9 ∷ []) ∷ (7 ∷ 8 ∷ []) ∷ (7 ∷ 8 ∷ 9 ∷ []) ∷ []
parts_of_three = refl

-- without a twist a bigon leads from the crossing point to the contact point,
annulus_without_twist_leads : led_to annulus_without_twist (piece_table annulus_without_twist) (0 ∷ []) (4 ∷ []) ≡ 1 ∷ []
annulus_without_twist_leads = refl

-- and so does another, so the contact generator isn't in the column
annulus_without_twist_pair : domain_count annulus_without_twist (0 ∷ []) (1 ∷ []) (parts (inner_pieces annulus_without_twist)) ≡ 2
annulus_without_twist_pair = refl

-- in whatever order the pieces are listed
annulus_without_twist_turned : domain_count annulus_without_twist (0 ∷ []) (1 ∷ []) (parts (4 ∷ 1 ∷ [])) ≡ 2
annulus_without_twist_turned = refl

-- the square whose points are corners twice is no domain
annulus_two_right_twists_none : map (λ x. domain_count annulus_two_right_twists (0 ∷ []) x (parts (inner_pieces annulus_two_right_twists))) ((0 ∷ []) ∷ (1 ∷ []) ∷ []) ≡ 0 ∷ 0 ∷ []
annulus_two_right_twists_none = refl

-- a bigon from each of the two crossing points to the contact point
torus_right_left_bigons : map (λ y. domain_count torus_right_left y (contact_generator torus_right_left) (parts (inner_pieces torus_right_left))) (generators torus_right_left) ≡ 1 ∷ 1 ∷ 0 ∷ []
torus_right_left_bigons = refl
