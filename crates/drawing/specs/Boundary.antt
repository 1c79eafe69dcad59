-- The boundary of a piece that isn't base: segments of sides and chords in turn.
use Rattle.std.specs.Prelude.{◌≡◌, ◌⊎◌, ℕ, suc, ◌<◌, List, [], ◌∷◌, map}
use Rattle.obd_base.specs.Lists.{Mem, Once}
use Rattle.page_surface.specs.Drawing.{Chord, Drawing, chords, exit, points_on, spot}
use Rattle.page_surface.specs.Polygon.{sides}
use Rattle.drawing.specs.Pieces.{segments_in}

-- a segment that begins at a point of a side, and ends at the next point or at the side's end
pub record IsFromPoint (d : Drawing) (segment : ℕ) : Type 0 where
  pub side : ℕ
  pub place : ℕ
  pub side_in_range : side < sides d.polygon
  pub place_in_range : place < points_on d side
  pub ends_at : segment ≡ spot d (exit side (suc place))

-- a chord, run either way, leads from the end of a segment to the start of another. A segment has the number of its
-- end, so its start has the number before.
abbrev pub Leads : Chord → ℕ → ℕ → Type 0
Leads c segment next = ((c.from ≡ segment) × (suc c.to ≡ next)) ⊎ ((c.to ≡ segment) × (suc c.from ≡ next))

-- a segment, and the chord behind it
pub record Stretch : Type 0 where
  pub segment : ℕ
  pub chord : Chord

-- the first segment of some stretches, or another one where there are none
abbrev pub first_segment : List Stretch → ℕ → ℕ
first_segment [] other = other
first_segment (p ∷ ps) other = p.segment

-- each chord leads from its segment to the next one, and the last chord to the segment 'after'
abbrev pub InTurn : List Stretch → ℕ → Type 0
InTurn [] after = Unit {0}
InTurn (p ∷ ps) after = Leads p.chord p.segment (first_segment ps after) × InTurn ps after

-- the boundary of the piece of a span, counterclockwise: all segments of the piece, each once, between points; as many
-- chords of the drawing, each once; and they follow one another in turn until the first segment comes again
pub record IsBoundary (d : Drawing) (s : ℕ) (stretches : List Stretch) : Type 0 where
  pub segments : map (λ p. p.segment) stretches ≡ segments_in d s
  pub from_points : (p : Stretch) → Mem p stretches → IsFromPoint d p.segment
  pub of_drawing : (p : Stretch) → Mem p stretches → Mem p.chord (chords d)
  pub each_once : Once (map (λ p. p.chord) stretches)
  pub in_turn : InTurn stretches (first_segment stretches s)
