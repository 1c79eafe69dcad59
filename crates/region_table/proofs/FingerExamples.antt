-- Three fingers on the torus with two hexagons: the names that they write, and how many pieces change.
use Rattle.std.proofs.Common.{◌≡◌, ℕ, suc, true, false, cond, ltb, List, [], ◌∷◌, get_or, map, length, refl}
use Rattle.page_surface.specs.Drawing.{Drawing, chords}
use Rattle.page_surface.proofs.Examples.{torus_two_hexagons}
use Rattle.drawing.specs.declared.finger.Finger.{Finger}
use Rattle.drawing.specs.Fingers.{carried_span, chord_at, entered, entered_beyond, finger, pushed}
use Rattle.drawing.specs.Pieces.{gap, pieces, same_piece, segments_in, spans}
use Rattle.region_table.specs.FingerLists.{comes_in_front, passes_later, put_two, renamed_part}
use Rattle.region_table.specs.Naming.{fresh_names}

-- the span behind the pushed chord, as seen from the finger's segment
abbrev pub span_behind : Drawing → Finger → ℕ
span_behind d f = let c = chord_at d f.strand f.chord in cond (passes_later d f) c.to c.from

-- the names that a finger writes over those of a drawing
abbrev pub names_written : Drawing → Finger → List ℕ → List ℕ
names_written d f names =
    let t = entered d f in
    let u = entered_beyond d f in
    let count = length (pieces d) in
    let at : ℕ → ℕ = λ s. get_or names s 0 in
    let renamed = map (renamed_part (at t) count (comes_in_front (chord_at d f.strand f.chord).from t) at) (spans d) in
    cond (ltb t u)
    (put_two t (at t) (at (span_behind d f)) (put_two u (at u) (suc count) renamed))
    (put_two u (at u) (suc count) (put_two t (at t) (at (span_behind d f)) renamed))

-- the drawings after one finger and after two
abbrev pub torus_after_one_finger : Drawing
torus_after_one_finger = pushed torus_two_hexagons (finger 0 2 3 2)

abbrev pub torus_after_two_fingers : Drawing
torus_after_two_fingers = pushed torus_after_one_finger (finger 1 1 3 1)

-- the first splits piece 1: its other part is 6, the tip 7, and the new middle span and the new span beyond come to piece 2
names_after_one_finger : names_written torus_two_hexagons (finger 0 2 3 2) (fresh_names torus_two_hexagons)
    ≡ 0 ∷ 6 ∷ 2 ∷ 2 ∷ 7 ∷ 2 ∷ 1 ∷ 3 ∷ 4 ∷ 4 ∷ 3 ∷ 5 ∷ 5 ∷ 3 ∷ 1 ∷ 2 ∷ 6 ∷ 0 ∷ []
names_after_one_finger = refl

-- they name the same pieces as the names of a table made anew
names_made_anew : fresh_names torus_after_one_finger ≡ 0 ∷ 1 ∷ 2 ∷ 2 ∷ 3 ∷ 2 ∷ 4 ∷ 5 ∷ 6 ∷ 6 ∷ 5 ∷ 7 ∷ 7 ∷ 5 ∷ 4 ∷ 2 ∷ 1 ∷ 0 ∷ []
names_made_anew = refl

-- at the first finger the piece behind the chord is the piece beyond the segment, so four pieces change
first_finger_changes_four : same_piece (chords torus_two_hexagons) (span_behind torus_two_hexagons (finger 0 2 3 2)) (entered_beyond torus_two_hexagons (finger 0 2 3 2)) ≡ true
first_finger_changes_four = refl

-- it is that of gap 0
first_finger_beyond_is_base : same_piece (chords torus_two_hexagons) (gap torus_two_hexagons 0) (entered_beyond torus_two_hexagons (finger 0 2 3 2)) ≡ true
first_finger_beyond_is_base = refl

-- at the others they are two pieces, so five change
second_finger_changes_five : same_piece (chords torus_after_one_finger) (span_behind torus_after_one_finger (finger 1 1 3 1)) (entered_beyond torus_after_one_finger (finger 1 1 3 1)) ≡ false
second_finger_changes_five = refl

third_finger_changes_five : same_piece (chords torus_after_two_fingers) (span_behind torus_after_two_fingers (finger 1 2 3 4)) (entered_beyond torus_after_two_fingers (finger 1 2 3 4)) ≡ false
third_finger_changes_five = refl

-- the hexagon at side 2, segment 1 is kept by the first finger
second_hexagon_kept : segments_in torus_after_one_finger (carried_span torus_two_hexagons (finger 0 2 3 2) 8) ≡ map (carried_span torus_two_hexagons (finger 0 2 3 2)) (segments_in torus_two_hexagons 8)
second_hexagon_kept = refl
