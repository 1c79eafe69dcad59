-- The tests of fingers and of generators say what the records say.
use Rattle.std.proofs.Common.{◌≡◌, ℕ, ◌<◌, ◌≤◌, true, ltb, leb, not, ◌&&◌, List, [], ◌∷◌, length, get_or, refl, sym, ◌∙◌, ap}
use Rattle.std.proofs.lemmas.Bool.{and_parts, and_from, false≢true, leb-true, le-leb, lt-ltb, ltb-true, not-true, false_from_ne_true}
use Rattle.obd_base.specs.Lists.{Once, has}
use Rattle.page_surface.specs.Drawing.{Drawing, exit, points_on, spot, strand_exits}
use Rattle.page_surface.specs.Polygon.{arc_count, sides}
use Rattle.drawing.specs.declared.finger.Finger.{Finger}
use Rattle.drawing.specs.Fingers.{IsLegal, borders, chord_at, is_legal}
use Rattle.drawing.proofs.Lists.{has_mem, mem_has}
use Rattle.drawing.specs.Points.{IsGenerator, all_different, crossings_of, is_generator, strands_of}

-- a finger that passes is legal
pub legal_from_test : (d : Drawing) (f : Finger) → is_legal d f ≡ true → IsLegal d f
legal_from_test d f h =
    let border = borders d (chord_at d f.strand f.chord) (spot d (exit f.side f.segment)) in
    let segment = leb f.segment (points_on d f.side) in
    let side = ltb f.side (sides d.polygon) in
    let chord = leb f.chord (length (strand_exits d f.strand)) in
    let a = and_parts (ltb f.strand (arc_count d.polygon)) (chord && (side && (segment && border))) h in
    let b = and_parts chord (side && (segment && border)) a.1 in
    let c = and_parts side (segment && border) b.1 in
    let e = and_parts segment border c.1 in
    record { strand = ltb-true _ _ a.0; chord = leb-true _ _ b.0; side = ltb-true _ _ c.0; segment = leb-true _ _ e.0; borders_it = e.1 }

-- a legal finger passes
pub test_from_legal : (d : Drawing) (f : Finger) → IsLegal d f → is_legal d f ≡ true
test_from_legal d f ok =
    and_from _ _ (lt-ltb _ _ ok.strand) (and_from _ _ (le-leb _ _ ok.chord) (and_from _ _ (lt-ltb _ _ ok.side) (and_from _ _ (le-leb _ _ ok.segment) ok.borders_it)))

-- a list that passes repeats no number
pub once_from_test : (xs : List ℕ) → all_different xs ≡ true → Once xs
once_from_test [] h = tt
once_from_test (x ∷ xs) h =
    let r = and_parts (not (has xs x)) (all_different xs) h in
    (λ m. absurd (false≢true (sym (not-true _ r.0) ∙ has_mem xs x m)), once_from_test xs r.1)

-- a list that repeats no number passes
pub test_from_once : (xs : List ℕ) → Once xs → all_different xs ≡ true
test_from_once [] o = refl
test_from_once (x ∷ xs) o =
    and_from (not (has xs x)) (all_different xs) (ap not (false_from_ne_true (has xs x) (λ h. o.0 (mem_has xs x h)))) (test_from_once xs o.1)

-- points that pass, one on each arc, are a generator
pub generator_from_test : (d : Drawing) (points : List ℕ) → length points ≡ arc_count d.polygon
    → ((a : ℕ) → a < arc_count d.polygon → get_or points a 0 ≤ crossings_of d a) → is_generator d points ≡ true → IsGenerator d points
generator_from_test d points one l h = record { one_each = one; in_range = l; different = once_from_test (strands_of d points) h }

-- a generator passes
pub test_from_generator : (d : Drawing) (points : List ℕ) → IsGenerator d points → is_generator d points ≡ true
test_from_generator d points ok = test_from_once (strands_of d points) ok.different
