-- Worked pages of several polygons, joined.
use Rattle.std.proofs.Common.{◌≡◌, List, [], ◌∷◌, None, refl}
use Rattle.page_surface.specs.Joining.{joined, page_polygon, side}
use Rattle.page_surface.specs.Labels.{Label, side_labels_of}
use Rattle.page_surface.specs.Page.{refusal_of}
use Rattle.page_surface.specs.Polygon.{paired}
use Rattle.arc_basis.specs.SeamTables.{spliced}

abbrev A : Label
A = 65 ∷ []

abbrev B : Label
B = 66 ∷ []

abbrev C : Label
C = 67 ∷ []

abbrev S : Label
S = 83 ∷ []

-- two triangles joined along S: the second is set in place of S in the first, which gives the punctured torus
abbrev two_triangles : List (List Label)
two_triangles = (S ∷ A ∷ B ∷ []) ∷ (S ∷ A ∷ B ∷ []) ∷ []

triangles_joined : joined two_triangles ≡ record { polygons = (side 1 1 ∷ side 2 1 ∷ side 1 0 ∷ side 2 0 ∷ []) ∷ []; seams = 0 ∷ [] }
triangles_joined = refl

triangles_polygon : page_polygon two_triangles ≡ paired (2 ∷ 3 ∷ 0 ∷ 1 ∷ [])
triangles_polygon = refl

triangles_spliced : spliced 0 (side_labels_of [] two_triangles) ≡ (joined two_triangles).polygons
triangles_spliced = refl

-- a label between polygons that are one at its turn is no seam
abbrev three_polygons : List (List Label)
three_polygons = (A ∷ B ∷ []) ∷ (A ∷ C ∷ S ∷ []) ∷ (B ∷ S ∷ C ∷ []) ∷ []

three_accepted : refusal_of three_polygons ≡ None
three_accepted = refl

three_joined : joined three_polygons ≡ record { polygons = (side 2 0 ∷ side 3 0 ∷ side 3 1 ∷ side 2 1 ∷ []) ∷ []; seams = 0 ∷ 1 ∷ [] }
three_joined = refl
