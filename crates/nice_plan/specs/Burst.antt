-- A burst: the doors' chords pushed along the path, one after another, each inside the one before.
use Rattle.std.specs.Prelude.{ℕ, ◌+◌, ◌-◌, cond, nat_eq, nat_le, nat_lt, ◌&&◌, ◌||◌, List, [], ◌∷◌, ◌++◌, length, map}
use Rattle.std.specs.List.{enumerate_from, flat_map}
use Rattle.obd_base.specs.Lists.{below}
use Rattle.obd_base.specs.declared.points.Exit.{Exit}
use Rattle.page_surface.specs.Drawing.{Chord, Drawing, chords, exit, points_on, strand_chords}
use Rattle.page_surface.specs.Polygon.{arc_count, partner}
use Rattle.drawing.specs.declared.finger.Finger.{Finger}
use Rattle.drawing.specs.Fingers.{finger, pushed}
use Rattle.drawing.specs.Pieces.{distance}
use Rattle.drawing.specs.Round.{next_segment}
use Rattle.finger_move.specs.Glued.{segment_of}
use Rattle.nice_plan.specs.declared.chord_name.ChordName.{ChordName}
use Rattle.nice_plan.specs.Path.{before_door, chosen, doors_from, path_from}

-- a chord with its name
pub record Named : Type 0 where
  pub name : ChordName
  pub ends : Chord

-- all chords with their names
abbrev pub named_chords : Drawing → List Named
named_chords d = flat_map (λ i. map (λ e. record { name = record { strand = i; chord = e.0 }; ends = e.1 }) (enumerate_from 0 (strand_chords d i))) (below (arc_count d.polygon))

-- the name of the chord that ends at a number
abbrev pub chord_ending : List Named → ℕ → ChordName
chord_ending [] x = record { strand = 0; chord = 0 }
chord_ending (e ∷ es) x = cond (nat_eq e.ends.from x || nat_eq e.ends.to x) e.name (chord_ending es x)

-- an old segment that isn't the finger's, nor glued to it, in the numbers after the finger
abbrev pub carried_segment : Drawing → Finger → Exit → Exit
carried_segment d f e =
    exit e.side (e.place +
    (cond (nat_eq e.side f.side) (cond (nat_le e.place f.segment) 0 2)
    (cond (nat_eq e.side (partner d.polygon f.side)) (cond (nat_le e.place (points_on d f.side - f.segment)) 0 2) 0)))

-- another chord than the pushed one, in the numbers after the finger
abbrev pub carried_chord : Finger → ChordName → ChordName
carried_chord f c = cond (nat_eq c.strand f.strand && nat_lt f.chord c.chord) (record { strand = c.strand; chord = c.chord + 2 }) c

-- what pushing one chord along the path leaves: the fingers, the drawing, the segments between the points that the fingers made, and how
-- other chords are numbered then
pub record Row : Type 0 where
  pub fingers : List Finger
  pub drawing : Drawing
  pub between : List Exit
  pub carry : ChordName → ChordName

-- one chord pushed along segments: the finger that enters a segment makes a chord beyond it, which is pushed on. `now` takes a segment to the
-- numbers of the drawing at hand, and `done` are the segments between points so far.
abbrev pub push_row : Drawing → ChordName → List Exit → (Exit → Exit) → List Exit → Row
push_row d c [] now done = record { fingers = []; drawing = d; between = done; carry = λ e. e }
push_row d c (s ∷ ss) now done =
    let t = now s in
    let f = finger c.strand c.chord t.side t.place in
    let row = push_row (pushed d f) (record { strand = c.strand; chord = c.chord + 1 }) ss (λ e. carried_segment d f (now e))
    (map (carried_segment d f) done ++ (exit t.side (t.place + 1) ∷ [])) in
    record { fingers = f ∷ row.fingers; drawing = row.drawing; between = row.between; carry = λ e. row.carry (carried_chord f e) }

-- chords pushed one after another, each along the segments between the points that the one before made
abbrev pub push_rows : Drawing → List ChordName → (ChordName → ChordName) → List Exit → List Finger
push_rows d [] now segments = []
push_rows d (c ∷ cs) now segments =
    let row = push_row d (now c) segments (λ e. e) [] in
    row.fingers ++ push_rows row.drawing cs (λ e. row.carry (now e)) row.between

-- the path of the burst: it leaves the chosen piece by the second segment after its door
abbrev pub path : Drawing → List ℕ
path d = path_from d (distance d (chosen d)) (length (chords d)) (next_segment d (next_segment d (before_door d (chosen d))))

-- the chords to be pushed: the chosen piece's door, the door of the piece behind it, and so on to the base
abbrev pub doors : Drawing → List ChordName
doors d = map (chord_ending (named_chords d)) (doors_from d (distance d (chosen d)) (chosen d))

-- the burst of a drawing that isn't nice
abbrev pub burst : Drawing → List Finger
burst d = push_rows d (doors d) (λ e. e) (map (segment_of d) (path d))
