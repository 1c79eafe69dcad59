-- The fingers of a burst by the chords and segments of the drawing before it.
use Rattle.std.specs.Prelude.{◌≡◌, ℕ, suc, ◌+◌, ◌-◌, ◌*◌, cond, nat_eq, nat_lt, nat_le, ◌&&◌, List, [], ◌∷◌, ◌++◌, length, ◌≢◌}
use Rattle.std.specs.List.{sum_by}
use Rattle.page_surface.specs.Polygon.{partner}
use Rattle.obd_base.specs.declared.points.Exit.{Exit}
use Rattle.page_surface.specs.Drawing.{Drawing, points_on}
use Rattle.drawing.specs.declared.finger.Finger.{Finger}
use Rattle.drawing.specs.Fingers.{finger}
use Rattle.nice_plan.specs.declared.chord_name.ChordName.{ChordName}

-- two where segment s, or the one glued to it, stands before segment e on its side
abbrev pub lift : Drawing → Exit → Exit → ℕ
lift d s e =
    cond (nat_eq e.side s.side) (cond (nat_le e.place s.place) 0 2)
    (cond (nat_eq e.side (partner d.polygon s.side)) (cond (nat_le e.place (points_on d s.side - s.place)) 0 2) 0)

-- two for each of n segments where chord c stands before chord e on its strand
abbrev pub chord_lift : ℕ → ChordName → ChordName → ℕ
chord_lift n c e = cond (nat_eq e.strand c.strand && nat_lt c.chord e.chord) (n + n) 0

-- the fingers of row q, across the segments that are still to come after `before`; c is the number that the pushed chord has then
abbrev pub row_fingers : Drawing → List Exit → ℕ → ℕ → ℕ → List Exit → List Exit → List Finger
row_fingers d all q i c before [] = []
row_fingers d all q i c before (s ∷ ss) =
    finger i c s.side (s.place + (q + (q * sum_by (λ e. lift d e s) all + sum_by (λ e. lift d e s) before)))
    ∷ row_fingers d all q i (c + 1) (before ++ (s ∷ [])) ss

-- the rows of the chords that are still to come after `before`
abbrev pub rows_fingers : Drawing → List Exit → ℕ → List ChordName → List ChordName → List Finger
rows_fingers d all q before [] = []
rows_fingers d all q before (c ∷ cs) =
    row_fingers d all q c.strand (c.chord + sum_by (λ b. chord_lift (length all) b c) before) [] all
    ++ rows_fingers d all (suc q) (before ++ (c ∷ [])) cs

-- all chords pushed along all segments
abbrev pub burst_fingers : Drawing → List ChordName → List Exit → List Finger
burst_fingers d cs segments = rows_fingers d segments 0 [] cs

-- two segments that are different and not glued to each other
abbrev pub AreApart : Drawing → Exit → Exit → Type 0
AreApart d a b = (a.side ≡ b.side → a.place ≢ b.place) × (a.side ≡ partner d.polygon b.side → a.place + b.place ≢ points_on d b.side)
