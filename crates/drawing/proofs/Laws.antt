-- Laws of pieces: they are classes of spans, named by their first spans, as many as chords and one more, and glued together they are one.
use Rattle.std.proofs.Common.{◌≡◌, ℕ, suc, ◌+◌, ◌<◌, ◌≤◌, true, false, length, min}
use Rattle.obd_base.specs.Lists.{Mem}
use Rattle.page_surface.specs.Drawing.{Chord, Drawing, IsEmbedded, all_exits, chords}
use Rattle.page_surface.specs.Polygon.{arc_count}
use Rattle.drawing.specs.Cut.{IsCut}
use Rattle.drawing.specs.Pieces.{piece_of, pieces, same_piece, span_count}
use Rattle.drawing.specs.Reading.{Says}
use Rattle.drawing.specs.declared.refusal.DrawRefusal.TheVariants.{NotCut}
use Rattle.drawing.specs.Round.{next_span, previous_span, rounds}
use Rattle.drawing.proofs.SamePiece.{same_piece_refl, same_piece_sym}
use Rattle.drawing.proofs.ChordTree.{after_low_first, first_after_low}
use Rattle.drawing.proofs.CutAlways
use Rattle.drawing.proofs.Diagram.{is_diagram}
use Rattle.drawing.proofs.Orbits
use Rattle.drawing.proofs.PieceCount

-- a span lies in its own piece
pub reflexive : (d : Drawing) (s : ℕ) → same_piece (chords d) s s ≡ true
reflexive d s = same_piece_refl (chords d) s

-- lying in one piece goes both ways
pub symmetric : (d : Drawing) (s t : ℕ) → same_piece (chords d) s t ≡ true → same_piece (chords d) t s ≡ true
symmetric d s t h = same_piece_sym (chords d) s t h

-- and through a span between
pub transitive : (d : Drawing) (s t u : ℕ) → same_piece (chords d) s t ≡ true → same_piece (chords d) t u ≡ true → same_piece (chords d) s u ≡ true
transitive d s t u h k = Orbits.same_then (chords d) s t u h k

-- the name of a piece is one of its spans
pub name_in_piece : (d : Drawing) (s : ℕ) → s < span_count d → same_piece (chords d) s (piece_of d s) ≡ true
name_in_piece d s l = PieceCount.piece_of-same d s l

-- and none of its spans comes before
pub name_comes_first : (d : Drawing) (s t : ℕ) → t < span_count d → same_piece (chords d) s t ≡ true → piece_of d s ≤ t
name_comes_first d s t l h = PieceCount.piece_of-least d s t l h

-- the name of each span's piece is listed
pub name_listed : (d : Drawing) (s : ℕ) → s < span_count d → Mem (piece_of d s) (pieces d)
name_listed d s l = PieceCount.name_mem d s l

-- spans of one piece have one name
pub same_name : (d : Drawing) (s t : ℕ) → same_piece (chords d) s t ≡ true → piece_of d s ≡ piece_of d t
same_name d s t h = PieceCount.same_name d s t h

-- spans with one name lie in one piece
pub name_same : (d : Drawing) (s t : ℕ) → s < span_count d → t < span_count d → piece_of d s ≡ piece_of d t → same_piece (chords d) s t ≡ true
name_same d s t k l e = PieceCount.name_same d s t k l e

-- the span just after the lesser end of a chord is the first of its piece
pub first_after_lesser_end : (d : Drawing) → IsEmbedded d → (c : Chord) → Mem c (chords d)
    → (t : ℕ) → t < suc (min c.from c.to) → same_piece (chords d) (suc (min c.from c.to)) t ≡ false
first_after_lesser_end d ok c m t l = after_low_first (chords d) (is_diagram d ok) c m t l

-- a first span other than span 0 comes just after the lesser end of a chord
pub lesser_end_before_first : (d : Drawing) → IsEmbedded d → (s : ℕ) → ((t : ℕ) → t < suc s → same_piece (chords d) (suc s) t ≡ false)
    → (c : Chord) × Mem c (chords d) × (min c.from c.to ≡ s)
lesser_end_before_first d ok s h = first_after_low (chords d) (is_diagram d ok) s h

-- on the way round from a span come only spans of its piece
pub round_in_piece : (d : Drawing) → IsEmbedded d → (i s : ℕ) → s < span_count d → same_piece (chords d) s (rounds d i s) ≡ true
round_in_piece d ok i s l = Orbits.rounds_same d ok i s l

-- and all of them, the span itself at last
pub whole_piece_round : (d : Drawing) → IsEmbedded d → (s t : ℕ) → s < span_count d → t < span_count d
    → same_piece (chords d) s t ≡ true → (i : ℕ) × (rounds d (suc i) s ≡ t)
whole_piece_round d ok s t k l h = Orbits.same_orbit d ok s t k l h

-- a step counterclockwise is taken back by one clockwise
pub back_again : (d : Drawing) → IsEmbedded d → (s : ℕ) → s < span_count d → previous_span d (next_span d s) ≡ s
back_again d ok s l = Orbits.previous_next d ok s l

-- and the other way
pub on_again : (d : Drawing) → IsEmbedded d → (s : ℕ) → s < span_count d → next_span d (previous_span d s) ≡ s
on_again d ok s l = Orbits.next_previous d ok s l

-- an embedded drawing is cut
pub always_cut : (d : Drawing) → IsEmbedded d → IsCut d
always_cut d ok = CutAlways.always_cut d ok

-- so nothing is refused as not cut
pub never_uncut : (d : Drawing) (reached all : ℕ) → Says d (NotCut reached all) → ⊥
never_uncut d reached all says = says.1 (CutAlways.always_cut d says.0)

-- as many pieces as chords, and one more
pub one_more_piece : (d : Drawing) → IsEmbedded d → length (pieces d) ≡ suc (length (chords d))
one_more_piece d ok = PieceCount.pieces_are_first_spans d ok

-- as many as crossing points and arcs, and one more
pub piece_count : (d : Drawing) → IsEmbedded d → length (pieces d) ≡ length (all_exits d) + arc_count d.polygon + 1
piece_count d ok = PieceCount.piece_count d ok
