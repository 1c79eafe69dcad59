-- Worked drawings: the tight drawings of worked words, their pieces, distances and generators, and fingers.
use Rattle.std.proofs.Common.{◌≡◌, true, false, [], ◌∷◌, length, map, refl}
use Rattle.page_surface.specs.Drawing.{Drawing, exit, is_embedded}
use Rattle.page_surface.specs.Polygon.{IsPolygon}
use Rattle.page_surface.proofs.EmbeddedTest.{embedded_from_test}
use Rattle.page_surface.proofs.Examples.{annulus, annulus_is_polygon, eight_sides_is_polygon, torus_is_polygon, annulus_one_left_twist, annulus_one_right_twist, annulus_two_right_twists, annulus_without_twist, chain_of_four_curves, eight_sides, torus, torus_after_three_fingers, torus_five_and_one, torus_five_pairs, torus_right_left, torus_right_right, torus_two_hexagons, torus_without_twist}
use Rattle.drawing.specs.Fingers.{finger, is_legal, pushed, replayed}
use Rattle.drawing.specs.Pieces.{badness, distance, inner_pieces, pieces, segments_in}
use Rattle.drawing.specs.Points.{contact_generator, generators, strand_of}
use Rattle.drawing.specs.Round.{next_segment, previous_segment}
use Rattle.drawing.specs.Tight.{tight_drawing}
use Rattle.drawing.specs.Cut.{IsCut}
use Rattle.drawing.proofs.Laws.{always_cut}

-- the tight drawings of the words after twists
annulus_without_twist_drawn : tight_drawing annulus ((1 ∷ []) ∷ []) ≡ annulus_without_twist
annulus_without_twist_drawn = refl

annulus_one_right_twist_drawn : tight_drawing annulus ([] ∷ []) ≡ annulus_one_right_twist
annulus_one_right_twist_drawn = refl

annulus_one_left_twist_drawn : tight_drawing annulus ((1 ∷ 1 ∷ []) ∷ []) ≡ annulus_one_left_twist
annulus_one_left_twist_drawn = refl

annulus_two_right_twists_drawn : tight_drawing annulus ((0 ∷ []) ∷ []) ≡ annulus_two_right_twists
annulus_two_right_twists_drawn = refl

torus_without_twist_drawn : tight_drawing torus ((2 ∷ []) ∷ (3 ∷ []) ∷ []) ≡ torus_without_twist
torus_without_twist_drawn = refl

torus_right_right_drawn : tight_drawing torus ((3 ∷ []) ∷ [] ∷ []) ≡ torus_right_right
torus_right_right_drawn = refl

torus_right_left_drawn : tight_drawing torus ((1 ∷ []) ∷ (3 ∷ 3 ∷ []) ∷ []) ≡ torus_right_left
torus_right_left_drawn = refl

torus_two_hexagons_drawn : tight_drawing torus ((3 ∷ 3 ∷ []) ∷ (0 ∷ []) ∷ []) ≡ torus_two_hexagons
torus_two_hexagons_drawn = refl

torus_five_and_one_drawn : tight_drawing torus ((3 ∷ 0 ∷ 3 ∷ 0 ∷ 3 ∷ 0 ∷ 3 ∷ 0 ∷ 3 ∷ []) ∷ [] ∷ []) ≡ torus_five_and_one
torus_five_and_one_drawn = refl

torus_five_pairs_drawn : tight_drawing torus ((3 ∷ 2 ∷ 1 ∷ 1 ∷ 2 ∷ 3 ∷ []) ∷ (0 ∷ 3 ∷ 2 ∷ 3 ∷ 0 ∷ []) ∷ []) ≡ torus_five_pairs
torus_five_pairs_drawn = refl

chain_of_four_curves_drawn : tight_drawing eight_sides ((3 ∷ 7 ∷ 4 ∷ []) ∷ (5 ∷ 6 ∷ []) ∷ (7 ∷ []) ∷ [] ∷ []) ≡ chain_of_four_curves
chain_of_four_curves_drawn = refl

-- how many pieces each has
annulus_without_twist_pieces : length (pieces annulus_without_twist) ≡ 3
annulus_without_twist_pieces = refl

annulus_one_right_twist_pieces : length (pieces annulus_one_right_twist) ≡ 2
annulus_one_right_twist_pieces = refl

annulus_one_left_twist_pieces : length (pieces annulus_one_left_twist) ≡ 4
annulus_one_left_twist_pieces = refl

annulus_two_right_twists_pieces : length (pieces annulus_two_right_twists) ≡ 3
annulus_two_right_twists_pieces = refl

torus_without_twist_pieces : length (pieces torus_without_twist) ≡ 5
torus_without_twist_pieces = refl

torus_right_right_pieces : length (pieces torus_right_right) ≡ 4
torus_right_right_pieces = refl

torus_right_left_pieces : length (pieces torus_right_left) ≡ 6
torus_right_left_pieces = refl

torus_two_hexagons_pieces : length (pieces torus_two_hexagons) ≡ 6
torus_two_hexagons_pieces = refl

torus_five_and_one_pieces : length (pieces torus_five_and_one) ≡ 12
torus_five_and_one_pieces = refl

torus_five_pairs_pieces : length (pieces torus_five_pairs) ≡ 14
torus_five_pairs_pieces = refl

chain_of_four_curves_pieces : length (pieces chain_of_four_curves) ≡ 11
chain_of_four_curves_pieces = refl

torus_after_three_fingers_pieces : length (pieces torus_after_three_fingers) ≡ 12
torus_after_three_fingers_pieces = refl

-- the pieces that are not base, their badness, and their distances
annulus_without_twist_inner : inner_pieces annulus_without_twist ≡ 1 ∷ 4 ∷ []
annulus_without_twist_inner = refl

annulus_without_twist_badness : map (badness annulus_without_twist) (inner_pieces annulus_without_twist) ≡ 0 ∷ 0 ∷ []
annulus_without_twist_badness = refl

annulus_without_twist_distances : map (distance annulus_without_twist) (inner_pieces annulus_without_twist) ≡ 1 ∷ 1 ∷ []
annulus_without_twist_distances = refl

annulus_one_right_twist_inner : inner_pieces annulus_one_right_twist ≡ []
annulus_one_right_twist_inner = refl

annulus_one_left_twist_inner : inner_pieces annulus_one_left_twist ≡ 2 ∷ 6 ∷ []
annulus_one_left_twist_inner = refl

annulus_one_left_twist_badness : map (badness annulus_one_left_twist) (inner_pieces annulus_one_left_twist) ≡ 0 ∷ 0 ∷ []
annulus_one_left_twist_badness = refl

annulus_one_left_twist_distances : map (distance annulus_one_left_twist) (inner_pieces annulus_one_left_twist) ≡ 1 ∷ 1 ∷ []
annulus_one_left_twist_distances = refl

annulus_two_right_twists_inner : inner_pieces annulus_two_right_twists ≡ 1 ∷ []
annulus_two_right_twists_inner = refl

annulus_two_right_twists_badness : map (badness annulus_two_right_twists) (inner_pieces annulus_two_right_twists) ≡ 0 ∷ []
annulus_two_right_twists_badness = refl

annulus_two_right_twists_distances : map (distance annulus_two_right_twists) (inner_pieces annulus_two_right_twists) ≡ 1 ∷ []
annulus_two_right_twists_distances = refl

torus_without_twist_inner : inner_pieces torus_without_twist ≡ 1 ∷ 4 ∷ 7 ∷ 10 ∷ []
torus_without_twist_inner = refl

torus_without_twist_badness : map (badness torus_without_twist) (inner_pieces torus_without_twist) ≡ 0 ∷ 0 ∷ 0 ∷ 0 ∷ []
torus_without_twist_badness = refl

torus_without_twist_distances : map (distance torus_without_twist) (inner_pieces torus_without_twist) ≡ 1 ∷ 1 ∷ 1 ∷ 1 ∷ []
torus_without_twist_distances = refl

torus_right_right_inner : inner_pieces torus_right_right ≡ []
torus_right_right_inner = refl

torus_right_left_inner : inner_pieces torus_right_left ≡ 5 ∷ 12 ∷ []
torus_right_left_inner = refl

torus_right_left_badness : map (badness torus_right_left) (inner_pieces torus_right_left) ≡ 0 ∷ 0 ∷ []
torus_right_left_badness = refl

torus_right_left_distances : map (distance torus_right_left) (inner_pieces torus_right_left) ≡ 1 ∷ 1 ∷ []
torus_right_left_distances = refl

torus_two_hexagons_inner : inner_pieces torus_two_hexagons ≡ 1 ∷ 5 ∷ []
torus_two_hexagons_inner = refl

torus_two_hexagons_badness : map (badness torus_two_hexagons) (inner_pieces torus_two_hexagons) ≡ 1 ∷ 1 ∷ []
torus_two_hexagons_badness = refl

torus_two_hexagons_distances : map (distance torus_two_hexagons) (inner_pieces torus_two_hexagons) ≡ 1 ∷ 1 ∷ []
torus_two_hexagons_distances = refl

torus_five_and_one_inner : inner_pieces torus_five_and_one ≡ 1 ∷ 2 ∷ 3 ∷ 4 ∷ 14 ∷ 15 ∷ 16 ∷ 17 ∷ []
torus_five_and_one_inner = refl

torus_five_and_one_badness : map (badness torus_five_and_one) (inner_pieces torus_five_and_one) ≡ 0 ∷ 0 ∷ 0 ∷ 0 ∷ 0 ∷ 0 ∷ 0 ∷ 0 ∷ []
torus_five_and_one_badness = refl

torus_five_and_one_distances : map (distance torus_five_and_one) (inner_pieces torus_five_and_one) ≡ 1 ∷ 2 ∷ 2 ∷ 1 ∷ 1 ∷ 2 ∷ 2 ∷ 1 ∷ []
torus_five_and_one_distances = refl

torus_five_pairs_inner : inner_pieces torus_five_pairs ≡ 1 ∷ 2 ∷ 3 ∷ 4 ∷ 5 ∷ 11 ∷ 12 ∷ 13 ∷ 19 ∷ 20 ∷ []
torus_five_pairs_inner = refl

torus_five_pairs_badness : map (badness torus_five_pairs) (inner_pieces torus_five_pairs) ≡ 0 ∷ 0 ∷ 1 ∷ 0 ∷ 0 ∷ 1 ∷ 0 ∷ 0 ∷ 0 ∷ 0 ∷ []
torus_five_pairs_badness = refl

torus_five_pairs_distances : map (distance torus_five_pairs) (inner_pieces torus_five_pairs) ≡ 1 ∷ 2 ∷ 3 ∷ 2 ∷ 1 ∷ 3 ∷ 2 ∷ 1 ∷ 2 ∷ 1 ∷ []
torus_five_pairs_distances = refl

chain_of_four_curves_inner : inner_pieces chain_of_four_curves ≡ 12 ∷ 20 ∷ 21 ∷ []
chain_of_four_curves_inner = refl

chain_of_four_curves_badness : map (badness chain_of_four_curves) (inner_pieces chain_of_four_curves) ≡ 0 ∷ 0 ∷ 0 ∷ []
chain_of_four_curves_badness = refl

chain_of_four_curves_distances : map (distance chain_of_four_curves) (inner_pieces chain_of_four_curves) ≡ 1 ∷ 1 ∷ 1 ∷ []
chain_of_four_curves_distances = refl

torus_after_three_fingers_inner : inner_pieces torus_after_three_fingers ≡ 1 ∷ 4 ∷ 6 ∷ 8 ∷ 9 ∷ 10 ∷ 11 ∷ 14 ∷ []
torus_after_three_fingers_inner = refl

torus_after_three_fingers_badness : map (badness torus_after_three_fingers) (inner_pieces torus_after_three_fingers) ≡ 0 ∷ 0 ∷ 0 ∷ 0 ∷ 0 ∷ 0 ∷ 0 ∷ 0 ∷ []
torus_after_three_fingers_badness = refl

torus_after_three_fingers_distances : map (distance torus_after_three_fingers) (inner_pieces torus_after_three_fingers) ≡ 1 ∷ 1 ∷ 1 ∷ 1 ∷ 2 ∷ 2 ∷ 1 ∷ 1 ∷ []
torus_after_three_fingers_distances = refl

-- the generators, in order, by the points on the arcs
annulus_without_twist_generators : generators annulus_without_twist ≡ (0 ∷ []) ∷ (1 ∷ []) ∷ []
annulus_without_twist_generators = refl

annulus_one_right_twist_generators : generators annulus_one_right_twist ≡ (0 ∷ []) ∷ []
annulus_one_right_twist_generators = refl

annulus_one_left_twist_generators : generators annulus_one_left_twist ≡ (0 ∷ []) ∷ (1 ∷ []) ∷ (2 ∷ []) ∷ []
annulus_one_left_twist_generators = refl

annulus_two_right_twists_generators : generators annulus_two_right_twists ≡ (0 ∷ []) ∷ (1 ∷ []) ∷ []
annulus_two_right_twists_generators = refl

torus_without_twist_generators : generators torus_without_twist ≡ (0 ∷ 0 ∷ []) ∷ (0 ∷ 1 ∷ []) ∷ (1 ∷ 0 ∷ []) ∷ (1 ∷ 1 ∷ []) ∷ []
torus_without_twist_generators = refl

torus_right_right_generators : generators torus_right_right ≡ (0 ∷ 1 ∷ []) ∷ []
torus_right_right_generators = refl

torus_right_left_generators : generators torus_right_left ≡ (0 ∷ 0 ∷ []) ∷ (0 ∷ 2 ∷ []) ∷ (0 ∷ 3 ∷ []) ∷ []
torus_right_left_generators = refl

torus_two_hexagons_generators : generators torus_two_hexagons ≡ (0 ∷ 0 ∷ []) ∷ (0 ∷ 1 ∷ []) ∷ (1 ∷ 2 ∷ []) ∷ []
torus_two_hexagons_generators = refl

torus_five_and_one_generators : generators torus_five_and_one ≡ (0 ∷ 5 ∷ []) ∷ (1 ∷ 5 ∷ []) ∷ (2 ∷ 5 ∷ []) ∷ (3 ∷ 5 ∷ []) ∷ (4 ∷ 5 ∷ []) ∷ []
torus_five_and_one_generators = refl

torus_five_pairs_generator_count : length (generators torus_five_pairs) ≡ 21
torus_five_pairs_generator_count = refl

chain_of_four_curves_generators : generators chain_of_four_curves ≡ (0 ∷ 1 ∷ 2 ∷ 3 ∷ []) ∷ []
chain_of_four_curves_generators = refl

torus_after_three_fingers_generators : generators torus_after_three_fingers ≡ (0 ∷ 0 ∷ []) ∷ (0 ∷ 1 ∷ []) ∷ (0 ∷ 4 ∷ []) ∷ (0 ∷ 7 ∷ []) ∷ (1 ∷ 2 ∷ []) ∷ (1 ∷ 3 ∷ []) ∷ (1 ∷ 5 ∷ []) ∷ (1 ∷ 6 ∷ []) ∷ (1 ∷ 8 ∷ []) ∷ []
torus_after_three_fingers_generators = refl

-- the contact generators
annulus_without_twist_contact : contact_generator annulus_without_twist ≡ 1 ∷ []
annulus_without_twist_contact = refl

annulus_one_right_twist_contact : contact_generator annulus_one_right_twist ≡ 0 ∷ []
annulus_one_right_twist_contact = refl

annulus_one_left_twist_contact : contact_generator annulus_one_left_twist ≡ 2 ∷ []
annulus_one_left_twist_contact = refl

annulus_two_right_twists_contact : contact_generator annulus_two_right_twists ≡ 1 ∷ []
annulus_two_right_twists_contact = refl

torus_without_twist_contact : contact_generator torus_without_twist ≡ 1 ∷ 1 ∷ []
torus_without_twist_contact = refl

torus_right_right_contact : contact_generator torus_right_right ≡ 0 ∷ 1 ∷ []
torus_right_right_contact = refl

torus_right_left_contact : contact_generator torus_right_left ≡ 0 ∷ 3 ∷ []
torus_right_left_contact = refl

torus_two_hexagons_contact : contact_generator torus_two_hexagons ≡ 1 ∷ 2 ∷ []
torus_two_hexagons_contact = refl

torus_five_and_one_contact : contact_generator torus_five_and_one ≡ 4 ∷ 5 ∷ []
torus_five_and_one_contact = refl

torus_five_pairs_contact : contact_generator torus_five_pairs ≡ 5 ∷ 6 ∷ []
torus_five_pairs_contact = refl

chain_of_four_curves_contact : contact_generator chain_of_four_curves ≡ 0 ∷ 1 ∷ 2 ∷ 3 ∷ []
chain_of_four_curves_contact = refl

torus_after_three_fingers_contact : contact_generator torus_after_three_fingers ≡ 1 ∷ 8 ∷ []
torus_after_three_fingers_contact = refl

-- the two hexagons, by their segments
first_hexagon : segments_in torus_two_hexagons 1 ≡ 1 ∷ 4 ∷ 12 ∷ []
first_hexagon = refl

second_hexagon : segments_in torus_two_hexagons 5 ≡ 5 ∷ 8 ∷ 11 ∷ []
second_hexagon = refl

-- round the first one, both ways
round_first_hexagon : map (next_segment torus_two_hexagons) (1 ∷ 4 ∷ 12 ∷ []) ≡ 4 ∷ 12 ∷ 1 ∷ []
round_first_hexagon = refl

back_round_first_hexagon : map (previous_segment torus_two_hexagons) (1 ∷ 4 ∷ 12 ∷ []) ≡ 12 ∷ 1 ∷ 4 ∷ []
back_round_first_hexagon = refl

-- the three fingers
first_finger_legal : is_legal torus_two_hexagons (finger 0 2 3 2) ≡ true
first_finger_legal = refl

torus_after_one_finger : pushed torus_two_hexagons (finger 0 2 3 2) ≡ record {
  polygon = torus;
  strands = (exit 3 0 ∷ exit 3 1 ∷ exit 3 2 ∷ exit 1 0 ∷ []) ∷ (exit 0 0 ∷ []) ∷ [];
}
torus_after_one_finger = refl

second_finger_legal : is_legal (pushed torus_two_hexagons (finger 0 2 3 2)) (finger 1 1 3 1) ≡ true
second_finger_legal = refl

-- one segment further the chord doesn't border the piece
finger_too_far : is_legal (pushed torus_two_hexagons (finger 0 2 3 2)) (finger 1 1 3 2) ≡ false
finger_too_far = refl

third_finger_legal : is_legal (replayed torus_two_hexagons (finger 0 2 3 2 ∷ finger 1 1 3 1 ∷ [])) (finger 1 2 3 4) ≡ true
third_finger_legal = refl

torus_three_fingers : replayed torus_two_hexagons (finger 0 2 3 2 ∷ finger 1 1 3 1 ∷ finger 1 2 3 4 ∷ []) ≡ torus_after_three_fingers
torus_three_fingers = refl

-- of the last drawing: six squares and two bigons
squares_and_bigons : map (λ s. length (segments_in torus_after_three_fingers s)) (inner_pieces torus_after_three_fingers) ≡ 2 ∷ 1 ∷ 1 ∷ 2 ∷ 2 ∷ 2 ∷ 2 ∷ 2 ∷ []
squares_and_bigons = refl

-- the strands of the points of its two arcs
first_arc_strands : map (strand_of torus_after_three_fingers 0) (0 ∷ 1 ∷ []) ≡ 1 ∷ 0 ∷ []
first_arc_strands = refl

second_arc_strands : map (strand_of torus_after_three_fingers 1) (0 ∷ 1 ∷ 4 ∷ 7 ∷ 2 ∷ 3 ∷ 5 ∷ 6 ∷ 8 ∷ []) ≡ 0 ∷ 0 ∷ 0 ∷ 0 ∷ 1 ∷ 1 ∷ 1 ∷ 1 ∷ 1 ∷ []
second_arc_strands = refl

-- each is embedded, and so it is cut
cut_where_embedded : (d : Drawing) → IsPolygon d.polygon → is_embedded d ≡ true → IsCut d
cut_where_embedded d polygon test = always_cut d (embedded_from_test d polygon test)

annulus_without_twist_is_cut : IsCut annulus_without_twist
annulus_without_twist_is_cut = cut_where_embedded annulus_without_twist annulus_is_polygon refl

annulus_one_right_twist_is_cut : IsCut annulus_one_right_twist
annulus_one_right_twist_is_cut = cut_where_embedded annulus_one_right_twist annulus_is_polygon refl

annulus_one_left_twist_is_cut : IsCut annulus_one_left_twist
annulus_one_left_twist_is_cut = cut_where_embedded annulus_one_left_twist annulus_is_polygon refl

annulus_two_right_twists_is_cut : IsCut annulus_two_right_twists
annulus_two_right_twists_is_cut = cut_where_embedded annulus_two_right_twists annulus_is_polygon refl

torus_without_twist_is_cut : IsCut torus_without_twist
torus_without_twist_is_cut = cut_where_embedded torus_without_twist torus_is_polygon refl

torus_right_right_is_cut : IsCut torus_right_right
torus_right_right_is_cut = cut_where_embedded torus_right_right torus_is_polygon refl

torus_right_left_is_cut : IsCut torus_right_left
torus_right_left_is_cut = cut_where_embedded torus_right_left torus_is_polygon refl

torus_two_hexagons_is_cut : IsCut torus_two_hexagons
torus_two_hexagons_is_cut = cut_where_embedded torus_two_hexagons torus_is_polygon refl

torus_after_three_fingers_is_cut : IsCut torus_after_three_fingers
torus_after_three_fingers_is_cut = cut_where_embedded torus_after_three_fingers torus_is_polygon refl

torus_five_and_one_is_cut : IsCut torus_five_and_one
torus_five_and_one_is_cut = cut_where_embedded torus_five_and_one torus_is_polygon refl

torus_five_pairs_is_cut : IsCut torus_five_pairs
torus_five_pairs_is_cut = cut_where_embedded torus_five_pairs torus_is_polygon refl

chain_of_four_curves_is_cut : IsCut chain_of_four_curves
chain_of_four_curves_is_cut = cut_where_embedded chain_of_four_curves eight_sides_is_polygon refl
