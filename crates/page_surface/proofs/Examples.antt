-- Worked pages, words and drawings.
use Rattle.std.proofs.Common.{◌≡◌, true, false, List, [], ◌∷◌, map, refl, arith}
use Rattle.obd_base.specs.Lists.{below}
use Rattle.page_surface.specs.Drawing.{Drawing, chords, entry, exit, has_right_places, identity, is_embedded, is_placed, no_two_cross, points_on, right_on, words}
use Rattle.page_surface.specs.Joining.{joined, page_polygon, side}
use Rattle.page_surface.specs.Labels.{Label}
use Rattle.page_surface.specs.Polygon.{IsPolygon, Polygon, first_side, paired, second_side}
use Rattle.page_surface.specs.Words.{inverse, reduced}
use Rattle.page_surface.proofs.Laws.{polygon_from_test}

-- one label with one side on each side of the polygon: an annulus
abbrev pub annulus : Polygon
annulus = paired (1 ∷ 0 ∷ [])

-- A B A B: a torus with one boundary circle
abbrev pub torus : Polygon
torus = paired (2 ∷ 3 ∷ 0 ∷ 1 ∷ [])

-- 1 2 1 3 2 4 3 4: eight sides, four arcs
abbrev pub eight_sides : Polygon
eight_sides = paired (2 ∷ 4 ∷ 0 ∷ 6 ∷ 1 ∷ 7 ∷ 3 ∷ 5 ∷ [])

-- the arcs are numbered by first appearance
annulus_arcs : annulus.arcs ≡ 0 ∷ 0 ∷ []
annulus_arcs = refl

torus_arcs : torus.arcs ≡ 0 ∷ 1 ∷ 0 ∷ 1 ∷ []
torus_arcs = refl

eight_sides_arcs : eight_sides.arcs ≡ 0 ∷ 1 ∷ 0 ∷ 2 ∷ 1 ∷ 3 ∷ 2 ∷ 3 ∷ []
eight_sides_arcs = refl

-- the two sides of each arc
eight_sides_firsts : map (first_side eight_sides) (below 4) ≡ 0 ∷ 1 ∷ 3 ∷ 5 ∷ []
eight_sides_firsts = refl

eight_sides_seconds : map (second_side eight_sides) (below 4) ≡ 2 ∷ 4 ∷ 6 ∷ 7 ∷ []
eight_sides_seconds = refl

-- each is a polygon
pub annulus_is_polygon : IsPolygon annulus
annulus_is_polygon = polygon_from_test (1 ∷ 0 ∷ []) (omega arith) refl

pub torus_is_polygon : IsPolygon torus
torus_is_polygon = polygon_from_test (2 ∷ 3 ∷ 0 ∷ 1 ∷ []) (omega arith) refl

pub eight_sides_is_polygon : IsPolygon eight_sides
eight_sides_is_polygon = polygon_from_test (2 ∷ 4 ∷ 0 ∷ 6 ∷ 1 ∷ 7 ∷ 3 ∷ 5 ∷ []) (omega arith) refl

-- two triangles S A B, S A B
abbrev pub two_triangles : List (List Label)
two_triangles = ((83 ∷ []) ∷ (65 ∷ []) ∷ (66 ∷ []) ∷ []) ∷ ((83 ∷ []) ∷ (65 ∷ []) ∷ (66 ∷ []) ∷ []) ∷ []

-- S becomes a seam, and the second triangle stands in its place
two_triangles_joined : joined two_triangles ≡ record { polygons = (side 1 1 ∷ side 2 1 ∷ side 1 0 ∷ side 2 0 ∷ []) ∷ []; seams = 0 ∷ [] }
two_triangles_joined = refl

-- which makes the torus
two_triangles_polygon : page_polygon two_triangles ≡ torus
two_triangles_polygon = refl

-- one polygon has no seam
torus_page : page_polygon (((65 ∷ []) ∷ (66 ∷ []) ∷ (65 ∷ []) ∷ (66 ∷ []) ∷ []) ∷ []) ≡ torus
torus_page = refl

-- a letter cancels before its partner, and what is left may cancel again
torus_word_reduced : reduced torus (3 ∷ 1 ∷ 3 ∷ 0 ∷ 2 ∷ 3 ∷ []) ≡ 3 ∷ 3 ∷ []
torus_word_reduced = refl

nested_pairs_reduced : reduced torus (0 ∷ 3 ∷ 1 ∷ 2 ∷ []) ≡ []
nested_pairs_reduced = refl

free_word_stays : reduced torus (3 ∷ 2 ∷ 1 ∷ 1 ∷ 2 ∷ 3 ∷ []) ≡ 3 ∷ 2 ∷ 1 ∷ 1 ∷ 2 ∷ 3 ∷ []
free_word_stays = refl

word_back : inverse torus (3 ∷ 2 ∷ 1 ∷ []) ≡ 3 ∷ 0 ∷ 1 ∷ []
word_back = refl

-- without a twist each strand crosses its own arc once
abbrev pub annulus_without_twist : Drawing
annulus_without_twist = record { polygon = annulus; strands = (exit 1 0 ∷ []) ∷ [] }

annulus_without_twist_is_identity : identity annulus ≡ annulus_without_twist
annulus_without_twist_is_identity = refl

annulus_without_twist_embedded : is_embedded annulus_without_twist ≡ true
annulus_without_twist_embedded = refl

abbrev pub torus_without_twist : Drawing
torus_without_twist = record { polygon = torus; strands = (exit 2 0 ∷ []) ∷ (exit 3 0 ∷ []) ∷ [] }

torus_without_twist_is_identity : identity torus ≡ torus_without_twist
torus_without_twist_is_identity = refl

torus_without_twist_embedded : is_embedded torus_without_twist ≡ true
torus_without_twist_embedded = refl

-- one right twist of the annulus: the strand meets no arc
abbrev pub annulus_one_right_twist : Drawing
annulus_one_right_twist = record { polygon = annulus; strands = [] ∷ [] }

annulus_one_right_twist_embedded : is_embedded annulus_one_right_twist ≡ true
annulus_one_right_twist_embedded = refl

-- two right twists of the annulus
abbrev pub annulus_two_right_twists : Drawing
annulus_two_right_twists = record { polygon = annulus; strands = (exit 0 0 ∷ []) ∷ [] }

annulus_two_right_twists_embedded : is_embedded annulus_two_right_twists ≡ true
annulus_two_right_twists_embedded = refl

-- one left twist of the annulus: the strand leaves by point 1 of side 1, enters by point 0 of side 0, and so on
abbrev pub annulus_one_left_twist : Drawing
annulus_one_left_twist = record { polygon = annulus; strands = (exit 1 1 ∷ exit 1 0 ∷ []) ∷ [] }

annulus_one_left_twist_points : map (points_on annulus_one_left_twist) (below 2) ≡ 2 ∷ 2 ∷ []
annulus_one_left_twist_points = refl

annulus_one_left_twist_entry : entry annulus_one_left_twist (exit 1 1) ≡ exit 0 0
annulus_one_left_twist_entry = refl

annulus_one_left_twist_places : has_right_places annulus_one_left_twist ≡ true
annulus_one_left_twist_places = refl

annulus_one_left_twist_embedded : is_embedded annulus_one_left_twist ≡ true
annulus_one_left_twist_embedded = refl

-- the torus after a right twist along each of two curves that meet once
abbrev pub torus_right_right : Drawing
torus_right_right = record { polygon = torus; strands = (exit 3 0 ∷ []) ∷ [] ∷ [] }

torus_right_right_embedded : is_embedded torus_right_right ≡ true
torus_right_right_embedded = refl

-- the torus after a right twist and a left twist
abbrev pub torus_right_left : Drawing
torus_right_left = record { polygon = torus; strands = (exit 1 1 ∷ []) ∷ (exit 3 2 ∷ exit 3 0 ∷ []) ∷ [] }

torus_right_left_points : map (points_on torus_right_left) (below 4) ≡ 0 ∷ 3 ∷ 0 ∷ 3 ∷ []
torus_right_left_points = refl

torus_right_left_embedded : is_embedded torus_right_left ≡ true
torus_right_left_embedded = refl

-- the torus after two pairs of right twists
abbrev pub torus_two_hexagons : Drawing
torus_two_hexagons = record { polygon = torus; strands = (exit 3 0 ∷ exit 3 1 ∷ []) ∷ (exit 0 0 ∷ []) ∷ [] }

torus_two_hexagons_words : words torus_two_hexagons ≡ (3 ∷ 3 ∷ []) ∷ (0 ∷ []) ∷ []
torus_two_hexagons_words = refl

torus_two_hexagons_points : map (points_on torus_two_hexagons) (below 4) ≡ 1 ∷ 2 ∷ 1 ∷ 2 ∷ []
torus_two_hexagons_points = refl

torus_two_hexagons_embedded : is_embedded torus_two_hexagons ≡ true
torus_two_hexagons_embedded = refl

-- the same exits with two places swapped: the places are right, but two chords cross
abbrev pub torus_crossing_chords : Drawing
torus_crossing_chords = record { polygon = torus; strands = (exit 3 1 ∷ exit 3 0 ∷ []) ∷ (exit 0 0 ∷ []) ∷ [] }

torus_crossing_chords_places : is_placed torus_crossing_chords ≡ true
torus_crossing_chords_places = refl

torus_crossing_chords_cross : no_two_cross (chords torus_crossing_chords) ≡ false
torus_crossing_chords_cross = refl

torus_crossing_chords_not_embedded : is_embedded torus_crossing_chords ≡ false
torus_crossing_chords_not_embedded = refl

-- a place past the end of its side: side 1 is the first one that is wrong
abbrev pub torus_wrong_place : Drawing
torus_wrong_place = record { polygon = torus; strands = (exit 3 0 ∷ exit 3 2 ∷ []) ∷ (exit 0 0 ∷ []) ∷ [] }

torus_wrong_place_sides : map (right_on torus_wrong_place) (below 4) ≡ true ∷ false ∷ true ∷ false ∷ []
torus_wrong_place_sides = refl

torus_wrong_place_not_embedded : is_embedded torus_wrong_place ≡ false
torus_wrong_place_not_embedded = refl

-- the drawing with two hexagons after three fingers
abbrev pub torus_after_three_fingers : Drawing
torus_after_three_fingers = record {
  polygon = torus;
  strands = (exit 3 0 ∷ exit 3 3 ∷ exit 3 6 ∷ exit 1 0 ∷ []) ∷ (exit 0 0 ∷ exit 3 1 ∷ exit 3 4 ∷ exit 1 2 ∷ exit 1 5 ∷ []) ∷ [];
}

torus_after_three_fingers_points : map (points_on torus_after_three_fingers) (below 4) ≡ 1 ∷ 8 ∷ 1 ∷ 8 ∷ []
torus_after_three_fingers_points = refl

torus_after_three_fingers_embedded : is_embedded torus_after_three_fingers ≡ true
torus_after_three_fingers_embedded = refl

-- the torus after five right twists along one curve and one along the other
abbrev pub torus_five_and_one : Drawing
torus_five_and_one = record {
  polygon = torus;
  strands = (exit 3 0 ∷ exit 0 0 ∷ exit 3 1 ∷ exit 0 1 ∷ exit 3 2 ∷ exit 0 2 ∷ exit 3 3 ∷ exit 0 3 ∷ exit 3 4 ∷ []) ∷ [] ∷ [];
}

torus_five_and_one_embedded : is_embedded torus_five_and_one ≡ true
torus_five_and_one_embedded = refl

-- the torus after five pairs of right twists
abbrev pub torus_five_pairs : Drawing
torus_five_pairs = record {
  polygon = torus;
  strands =
      (exit 3 0 ∷ exit 2 1 ∷ exit 1 2 ∷ exit 1 3 ∷ exit 2 3 ∷ exit 3 5 ∷ [])
      ∷ (exit 0 0 ∷ exit 3 1 ∷ exit 2 2 ∷ exit 3 4 ∷ exit 0 4 ∷ []) ∷ [];
}

torus_five_pairs_embedded : is_embedded torus_five_pairs ≡ true
torus_five_pairs_embedded = refl

-- eight sides, after a right twist along each curve of a chain of four
abbrev pub chain_of_four_curves : Drawing
chain_of_four_curves = record { polygon = eight_sides; strands = (exit 3 0 ∷ exit 7 1 ∷ exit 4 0 ∷ []) ∷ (exit 5 0 ∷ exit 6 0 ∷ []) ∷ (exit 7 0 ∷ []) ∷ [] ∷ [] }

chain_of_four_curves_points : map (points_on chain_of_four_curves) (below 8) ≡ 0 ∷ 1 ∷ 0 ∷ 2 ∷ 1 ∷ 3 ∷ 2 ∷ 3 ∷ []
chain_of_four_curves_points = refl

chain_of_four_curves_places : has_right_places chain_of_four_curves ≡ true
chain_of_four_curves_places = refl

chain_of_four_curves_embedded : is_embedded chain_of_four_curves ≡ true
chain_of_four_curves_embedded = refl
