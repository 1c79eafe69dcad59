-- The edges of a piece that isn't base, as they are told.
use Rattle.std.specs.Prelude.{ℕ}
use Rattle.page_surface.specs.Drawing.{Drawing}
use Rattle.region_table.specs.Edges.{IsChordEdge, IsSegmentEdge}
use Rattle.region_table.specs.declared.edge.Edge.{Edge}
use Rattle.region_table.specs.declared.edge.Edge.TheVariants.{Chord, Segment}

-- edge 'at' of the piece of a span, counterclockwise from its first segment, which is edge 0
abbrev pub IsEdge : Drawing → ℕ → ℕ → Edge → Type 0
IsEdge d s at (Segment side segment) = IsSegmentEdge d s at side segment
IsEdge d s at (Chord strand chord) = IsChordEdge d s at strand chord
