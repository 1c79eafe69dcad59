-- Worked paths on pages: their chords in the place order, what refuses them, and their exits on the joined polygon.
use Rattle.std.proofs.Common.{◌≡◌, ℕ, List, [], ◌∷◌, Some, None, refl}
use Rattle.page_surface.specs.Drawing.{Chord, exit}
use Rattle.page_surface.specs.Labels.{Label}
use Rattle.curve_paths.specs.declared.path.Cross.{Cross}
use Rattle.curve_paths.specs.declared.refusal.CurveRefusal.TheVariants.{EmptyPath, UnknownLabel, PlaceWrong, NotAdjacent, Crosses}
use Rattle.curve_paths.specs.PathRules.{refusal_of}
use Rattle.curve_paths.specs.Paths.{crossings, path_chords}
use Rattle.curve_paths.specs.Through.{exits_through}

-- the labels A, B and S
abbrev A : Label
A = 65 ∷ []

abbrev B : Label
B = 66 ∷ []

abbrev S : Label
S = 83 ∷ []

-- a crossing, and a chord
abbrev cross : Label → ℕ → ℕ → Cross
cross label occurrence place = record { label = label; occurrence = occurrence; place = place }

abbrev chord : ℕ → ℕ → Chord
chord from to = record { from = from; to = to }

abbrev torus : List (List Label)
torus = (A ∷ B ∷ A ∷ B ∷ []) ∷ []

abbrev two_triangles : List (List Label)
two_triangles = (S ∷ A ∷ B ∷ []) ∷ (S ∷ A ∷ B ∷ []) ∷ []

-- twice through A and once through B
abbrev slope_two : List Cross
slope_two = cross A 0 0 ∷ cross A 0 1 ∷ cross B 0 0 ∷ []

slope_two_chords : path_chords torus (crossings torus slope_two) ≡ chord 8 1 ∷ chord 7 4 ∷ chord 11 0 ∷ []
slope_two_chords = refl

slope_two_is_a_curve : refusal_of torus slope_two ≡ None
slope_two_is_a_curve = refl

slope_two_exits : exits_through torus slope_two ≡ exit 0 0 ∷ exit 0 1 ∷ exit 1 0 ∷ []
slope_two_exits = refl

-- left by the second occurrence of A, whose places are counted from the other end
second_occurrence_exits : exits_through torus (cross A 1 0 ∷ cross A 1 1 ∷ cross B 0 0 ∷ []) ≡ exit 2 1 ∷ exit 2 0 ∷ exit 1 0 ∷ []
second_occurrence_exits = refl

-- with the places of A swapped, two chords cross
places_swapped : refusal_of torus (cross A 0 1 ∷ cross A 0 0 ∷ cross B 0 0 ∷ []) ≡ Some (Crosses 0 1)
places_swapped = refl

parallel_arcs_joined_wrongly : refusal_of torus (cross A 0 0 ∷ cross A 0 1 ∷ []) ≡ Some (Crosses 0 1)
parallel_arcs_joined_wrongly = refl

-- the first rule that fails is told
nothing_crossed : refusal_of torus [] ≡ Some EmptyPath
nothing_crossed = refl

unknown_before_wrong_place : refusal_of torus (cross A 0 5 ∷ cross S 0 0 ∷ []) ≡ Some (UnknownLabel 1)
unknown_before_wrong_place = refl

first_label_by_appearance : refusal_of torus (cross B 0 1 ∷ cross B 1 1 ∷ cross A 0 7 ∷ []) ≡ Some (PlaceWrong A)
first_label_by_appearance = refl

-- on two polygons each polygon has numbers of its own
two_polygons_chords : path_chords two_triangles (crossings two_triangles (cross A 0 0 ∷ cross S 1 0 ∷ [])) ≡ chord 11 8 ∷ chord 0 3 ∷ []
two_polygons_chords = refl

two_polygons_curve : refusal_of two_triangles (cross A 0 0 ∷ cross S 1 0 ∷ []) ≡ None
two_polygons_curve = refl

two_polygons_not_adjacent : refusal_of two_triangles (cross A 0 0 ∷ cross S 0 0 ∷ []) ≡ Some (NotAdjacent 0)
two_polygons_not_adjacent = refl

two_polygons_crossing : refusal_of two_triangles (cross S 0 1 ∷ cross A 1 0 ∷ cross S 0 0 ∷ cross B 1 0 ∷ []) ≡ Some (Crosses 0 2)
two_polygons_crossing = refl

-- the crossings with the seam are left out
seam_left_out : exits_through two_triangles (cross A 0 0 ∷ cross S 1 0 ∷ []) ≡ exit 2 0 ∷ []
seam_left_out = refl
