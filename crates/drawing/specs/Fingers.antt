-- Finger moves: which are legal, what they do, and which pieces they keep.
use Rattle.std.specs.Prelude.{◌≡◌, ◌⊎◌, ℕ, suc, ◌+◌, ◌-◌, ◌<◌, ◌≤◌, Bool, true, cond, nat_eq, nat_le, nat_lt, ◌&&◌, ◌||◌, List, [], ◌∷◌, ◌++◌, drop, length, map, slice_index_or, take}
use Rattle.std.specs.List.{enumerate_from}
use Rattle.obd_base.specs.Lists.{Mem}
use Rattle.obd_base.specs.declared.points.Exit.{Exit}
use Rattle.page_surface.specs.Drawing.{Chord, Drawing, chords, exit, is_embedded, points_on, spot, strand_chords, strand_exits}
use Rattle.page_surface.specs.Polygon.{arc_count, partner, sides}
use Rattle.drawing.specs.Pieces.{same_piece, segments_in}
use Rattle.drawing.specs.declared.finger.Finger.{Finger}

-- a finger by its four numbers: the chord of a strand that is pushed, and the segment of a side into which it goes
abbrev pub finger : ℕ → ℕ → ℕ → ℕ → Finger
finger strand chord side segment = record { strand = strand; chord = chord; side = side; segment = segment }

-- chord c of strand i
abbrev pub chord_at : Drawing → ℕ → ℕ → Chord
chord_at d i c = slice_index_or (strand_chords d i) c (record { from = 0; to = 0 })

-- a chord borders the pieces of the spans just before and just after its first end
abbrev pub borders : Drawing → Chord → ℕ → Bool
borders d c s = let cs = chords d in same_piece cs c.from s || same_piece cs (suc c.from) s

-- strand, chord, side and segment exist
pub record InRange (d : Drawing) (f : Finger) : Type 0 where
  pub strand : f.strand < arc_count d.polygon
  pub chord : f.chord ≤ length (strand_exits d f.strand)
  pub side : f.side < sides d.polygon
  pub segment : f.segment ≤ points_on d f.side

-- they exist, and the chord borders the piece of the segment
pub record IsLegal (d : Drawing) (f : Finger) : Type 0 where
  pub strand : f.strand < arc_count d.polygon
  pub chord : f.chord ≤ length (strand_exits d f.strand)
  pub side : f.side < sides d.polygon
  pub segment : f.segment ≤ points_on d f.side
  pub borders_it : borders d (chord_at d f.strand f.chord) (spot d (exit f.side f.segment)) ≡ true

-- the same as a test
abbrev pub is_legal : Drawing → Finger → Bool
is_legal d f =
    nat_lt f.strand (arc_count d.polygon)
    && (nat_le f.chord (length (strand_exits d f.strand))
    && (nat_lt f.side (sides d.polygon)
    && (nat_le f.segment (points_on d f.side)
    && borders d (chord_at d f.strand f.chord) (spot d (exit f.side f.segment)))))

-- the segment that is glued to the finger's, by its side and its place there
abbrev pub glued_to : Drawing → Finger → Exit
glued_to d f = exit (partner d.polygon f.side) (points_on d f.side - f.segment)

-- where an old point of a side stands after two new ones at places j and j + 1 of the finger's side
abbrev pub carried : Drawing → Finger → Exit → Exit
carried d f e =
    exit e.side (e.place +
    (cond (nat_eq e.side f.side) (cond (nat_lt e.place f.segment) 0 2)
    (cond (nat_eq e.side (partner d.polygon f.side)) (cond (nat_lt e.place (points_on d f.side - f.segment)) 0 2) 0)))

-- the drawing with the letters k, p(k) after the strand's first c letters; out is 0 or 1, by which of the new points the strand leaves
abbrev pub with_letters : Drawing → Finger → ℕ → Drawing
with_letters d f out = record {
  polygon = d.polygon;
  strands = map (λ s.
      let old = map (carried d f) s.1 in
      cond (nat_eq s.0 f.strand)
      (take f.chord old
      ++ (exit f.side (f.segment + out)
      ∷ exit (partner d.polygon f.side) (points_on d f.side - f.segment + out)
      ∷ drop f.chord old))
      old)
      (enumerate_from 0 d.strands);
}

-- the finger's effect: one of the two orders of the new points, and embedded
pub record IsEffect (d : Drawing) (f : Finger) (e : Drawing) : Type 0 where
  pub points : (e ≡ with_letters d f 0) ⊎ (e ≡ with_letters d f 1)
  pub embedded : is_embedded e ≡ true

-- the effect, as it computes
abbrev pub pushed : Drawing → Finger → Drawing
pushed d f = cond (is_embedded (with_letters d f 0)) (with_letters d f 0) (with_letters d f 1)

-- the drawing after some fingers, in order
abbrev pub replayed : Drawing → List Finger → Drawing
replayed d [] = d
replayed d (f ∷ fs) = replayed (pushed d f) fs

-- each finger is legal in the drawing that the ones before it leave
abbrev pub AllLegal : Drawing → List Finger → Type 0
AllLegal d [] = Unit {0}
AllLegal d (f ∷ fs) = IsLegal d f × AllLegal (pushed d f) fs

-- finger n, counted from 0, is the first that isn't legal in the drawing that the ones before it leave
pub record IsFirstIllegal (d : Drawing) (fs : List Finger) (n : ℕ) : Type 0 where
  pub finger : Finger
  pub there : n < length fs
  pub stands_there : finger ≡ slice_index_or fs n finger
  pub legal_before : AllLegal d (take n fs)
  pub illegal : ¬ (IsLegal (replayed d (take n fs)) finger)

-- the spans into which the new points are put: the finger's segment,
abbrev pub entered : Drawing → Finger → ℕ
entered d f = spot d (exit f.side f.segment)

-- and the segment glued to it
abbrev pub entered_beyond : Drawing → Finger → ℕ
entered_beyond d f = spot d (exit (partner d.polygon f.side) (points_on d f.side - f.segment))

-- the number of an old span in the new drawing, by the point before which it lies
abbrev pub carried_span : Drawing → Finger → ℕ → ℕ
carried_span d f x = x + (cond (nat_lt x (entered d f)) 0 2 + cond (nat_lt x (entered_beyond d f)) 0 2)

-- a piece of the new drawing is kept where its spans, each named by the places that bound it, are those of an old piece,
-- carried; the two spans that the new points are put into lose a bound
pub record IsKeptPiece (d : Drawing) (f : Finger) (old new : ℕ) : Type 0 where
  pub whole : segments_in (pushed d f) new ≡ map (carried_span d f) (segments_in d old)
  pub apart : Mem (entered d f) (segments_in d old) → ⊥
  pub apart_beyond : Mem (entered_beyond d f) (segments_in d old) → ⊥
