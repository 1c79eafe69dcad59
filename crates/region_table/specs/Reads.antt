-- What a table tells of sides, points and chords, so that they can be named by it.
use Rattle.std.specs.Prelude.{ℕ, suc, ◌+◌, ◌-◌, Option, Some, None, List, [], ◌∷◌, length, map, slice_index, slice_index_or}
use Rattle.page_surface.specs.Polygon.{first_side}
use Rattle.page_surface.specs.Drawing.{Drawing}
use Rattle.region_table.specs.Edges.{from_names}
use Rattle.region_table.specs.Table.{Table}

-- how many points a side has
abbrev pub told_points : Table → ℕ → ℕ
told_points t side = slice_index t.starts (suc side) - (slice_index t.starts side + 2)

-- how many crossing points an arc has
abbrev pub told_crossings : Table → ℕ → ℕ
told_crossings t a = told_points t (first_side t.polygon a)

-- the number of a segment of a side in the place order
abbrev pub told_spot : Table → ℕ → ℕ → ℕ
told_spot t side segment = slice_index t.starts side + segment

-- how many chords a strand has
abbrev pub told_chords : Table → ℕ → ℕ
told_chords t strand = length (slice_index_or t.begins strand [])

-- the names of 'from' quadrants, each of them there, and two that aren't for a contact point
abbrev pub quadrants_of : List ℕ → List (Option ℕ)
quadrants_of [] = None ∷ None ∷ []
quadrants_of (p ∷ ps) = map Some (p ∷ ps)

-- the names of the 'from' quadrants of a point, where they are
abbrev pub from_options : Drawing → Table → ℕ → ℕ → List (Option ℕ)
from_options d t a j = quadrants_of (from_names d t a j)
