-- Laws of the two trees of pieces, and of the boundary of a piece: segments and chords in turn where it isn't base, and a gap where it is.
use Rattle.std.proofs.Common.{◌≡◌, ◌≢◌, ℕ, suc, ◌<◌, true, false, List, map, length}
use Rattle.obd_base.specs.Lists.{Mem}
use Rattle.page_surface.specs.Drawing.{Chord, Drawing, IsEmbedded, chords}
use Rattle.page_surface.specs.Polygon.{sides}
use Rattle.drawing.specs.Boundary.{IsBoundary, Leads, Stretch}
use Rattle.drawing.specs.Fingers.{borders}
use Rattle.drawing.specs.Pieces.{gap, is_base, piece_of, pieces, same_piece, segments_in, span_count}
use Rattle.drawing.specs.Round.{next_segment}
use Rattle.drawing.specs.Trees.{IsTree, chord_links, glued_links}
use Rattle.drawing.proofs.PieceTrees
use Rattle.drawing.proofs.RoundPiece

-- the pieces and the chords form a tree
pub chord_tree : (d : Drawing) → IsEmbedded d → IsTree (pieces d) (chord_links d)
chord_tree d ok = PieceTrees.chord_tree d ok

-- so do the pieces and the pairs of glued segments
pub glued_tree : (d : Drawing) → IsEmbedded d → IsTree (pieces d) (glued_links d)
glued_tree d ok = PieceTrees.glued_tree d ok

-- a chord has two pieces on its two sides
pub two_sides : (d : Drawing) → IsEmbedded d → (c : Chord) → Mem c (chords d) → piece_of d c.from ≢ piece_of d (suc c.from)
two_sides d ok c m = RoundPiece.two_sides d ok c m

-- the same two at its other end, in the other order
pub other_sides : (d : Drawing) → IsEmbedded d → (c : Chord) → Mem c (chords d)
    → (piece_of d c.from ≡ piece_of d (suc c.to)) × (piece_of d (suc c.from) ≡ piece_of d c.to)
other_sides d ok c m = RoundPiece.other_sides d ok c m

-- a piece that isn't base has a boundary of segments and chords in turn
pub inner_boundary : (d : Drawing) → IsEmbedded d → (s : ℕ) → s < span_count d → is_base d s ≡ false
    → (stretches : List Stretch) × IsBoundary d s stretches
inner_boundary d ok s l inner = RoundPiece.inner_boundary d ok s l inner

-- it has as many chords as the piece has segments
pub as_many_chords : (d : Drawing) (s : ℕ) (stretches : List Stretch) → IsBoundary d s stretches
    → length (map (λ p. p.chord) stretches) ≡ length (segments_in d s)
as_many_chords d s stretches b = RoundPiece.as_many_chords d s stretches b

-- each of them borders the piece
pub met_borders : (d : Drawing) → IsEmbedded d → (s : ℕ) (stretches : List Stretch) → IsBoundary d s stretches
    → (p : Stretch) → Mem p stretches → borders d p.chord s ≡ true
met_borders d ok s stretches b p m = RoundPiece.met_borders d ok s stretches b p m

-- and each chord that borders the piece is one of them
pub bordering_met : (d : Drawing) → IsEmbedded d → (s : ℕ) (stretches : List Stretch) → IsBoundary d s stretches
    → (c : Chord) → Mem c (chords d) → borders d c s ≡ true → Mem c (map (λ p. p.chord) stretches)
bordering_met d ok s stretches b c m h = RoundPiece.bordering_met d ok s stretches b c m h

-- a chord that leads on from a segment leads to the next one
pub leads_to_next : (d : Drawing) → IsEmbedded d → (c : Chord) (s t : ℕ) → Mem c (chords d) → Leads c s t → t ≡ next_segment d s
leads_to_next d ok c s t m h = RoundPiece.leads_to_next d ok c s t m h

-- which is one of the piece's segments again where the piece isn't base
pub next_in_piece : (d : Drawing) → IsEmbedded d → (s : ℕ) → s < span_count d → is_base d s ≡ false → Mem (next_segment d s) (segments_in d s)
next_in_piece d ok s l inner = RoundPiece.next_in_piece d ok s l inner

-- a base piece has a gap
pub gap_of_base : (d : Drawing) → IsEmbedded d → (s : ℕ) → is_base d s ≡ true → (k : ℕ) × (k < sides d.polygon) × (same_piece (chords d) s (gap d k) ≡ true)
gap_of_base d ok s base = RoundPiece.gap_of_base d ok s base

-- at which no chord ends
pub no_end_at_gap : (d : Drawing) → IsEmbedded d → (c : Chord) (k : ℕ) → Mem c (chords d) → (c.from ≢ gap d k) × (c.to ≢ gap d k)
no_end_at_gap d ok c k m = RoundPiece.no_end_there d ok c k m
