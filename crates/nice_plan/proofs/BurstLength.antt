-- A burst has as many fingers as its doors times the segments of its path.
use Rattle.std.proofs.Common.{◌≡◌, ℕ, zero, suc, ◌+◌, ◌*◌, List, [], ◌∷◌, ◌++◌, map, length, refl, sym, ◌∙◌, ap, arith}
use Rattle.std.proofs.lemmas.List.{length-append, length-map}
use Rattle.std.proofs.Math.Nat.{suc-mul, zero-mul}
use Rattle.obd_base.specs.declared.points.Exit.{Exit}
use Rattle.page_surface.specs.Drawing.{Drawing, exit}
use Rattle.drawing.specs.Fingers.{finger, pushed}
use Rattle.drawing.specs.Pieces.{distance}
use Rattle.nice_plan.specs.declared.chord_name.ChordName.{ChordName}
use Rattle.nice_plan.specs.Burst.{burst, carried_segment, chord_ending, doors, named_chords, path, push_row, push_rows}
use Rattle.finger_move.specs.Glued.{segment_of}
use Rattle.nice_plan.specs.Path.{before_door, chosen, doors_from}

-- a row has a finger for each segment
row_length : (d : Drawing) (c : ChordName) (ss : List Exit) (now : Exit → Exit) (before : List Exit) → length (push_row d c ss now before).fingers ≡ length ss
row_length d c [] now before = refl
row_length d c (s ∷ ss) now before =
    let f = finger c.strand c.chord (now s).side (now s).place in
    ap suc (row_length (pushed d f) (record { strand = c.strand; chord = c.chord + 1 }) ss (λ e. carried_segment d f (now e)) (map (carried_segment d f) before ++ (exit (now s).side ((now s).place + 1) ∷ [])))

-- and leaves a segment between points for each
between_length : (d : Drawing) (c : ChordName) (ss : List Exit) (now : Exit → Exit) (before : List Exit) → length (push_row d c ss now before).between ≡ length before + length ss
between_length d c [] now before = omega arith
between_length d c (s ∷ ss) now before =
    let f = finger c.strand c.chord (now s).side (now s).place in
    let mid = exit (now s).side ((now s).place + 1) in
    let r = between_length (pushed d f) (record { strand = c.strand; chord = c.chord + 1 }) ss (λ e. carried_segment d f (now e)) (map (carried_segment d f) before ++ (mid ∷ [])) in
    let a = length-append (map (carried_segment d f) before) (mid ∷ []) in
    let b = length-map before (carried_segment d f) in
    omega (arith, r, a, b)

pub rows_length : (d : Drawing) (ns : List ChordName) (now : ChordName → ChordName) (ss : List Exit) → length (push_rows d ns now ss) ≡ length ns * length ss
rows_length d [] now ss = sym (zero-mul (length ss))
rows_length d (n ∷ ns) now ss =
    let row = push_row d (now n) ss (λ e. e) [] in
    let rest = push_rows row.drawing ns (λ e. row.carry (now e)) row.between in
    let a = length-append row.fingers rest in
    let b = row_length d (now n) ss (λ e. e) [] in
    let c = between_length d (now n) ss (λ e. e) [] in
    let z : length row.between ≡ length ss = omega (arith, c) in
    let r : length rest ≡ length ns * length ss = rows_length row.drawing ns (λ e. row.carry (now e)) row.between ∙ ap (λ w. length ns * w) z in
    let m = suc-mul (length ns) (length ss) in
    omega (arith, a, b, r, m)

-- a door for each step to the base
pub doors_length : (d : Drawing) (n s : ℕ) → length (doors_from d n s) ≡ n
doors_length d zero s = refl
doors_length d (suc n) s = ap suc (doors_length d n (suc (before_door d s)))

-- the number of fingers
pub burst_length : (d : Drawing) → length (burst d) ≡ distance d (chosen d) * length (path d)
burst_length d =
    rows_length d (doors d) (λ e. e) (map (segment_of d) (path d))
    ∙ (ap (λ w. w * length (map (segment_of d) (path d))) (length-map (doors_from d (distance d (chosen d)) (chosen d)) (chord_ending (named_chords d)) ∙ doors_length d (distance d (chosen d)) (chosen d))
    ∙ ap (λ w. distance d (chosen d) * w) (length-map (path d) (segment_of d)))
