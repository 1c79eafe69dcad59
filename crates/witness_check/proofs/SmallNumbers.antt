-- Numbers of a certificate of an open book that can be written: of names, drawings, fingers and columns.
use Rattle.std.proofs.Common.{◌≡◌, ℕ, ℤ, zero, suc, ◌+◌, ◌-◌, ◌*◌, ◌<◌, ◌≤◌, pos, negsuc, ◌-ℤ◌, Bool, true, false, cond, eqb, ltb, ◌&&◌, ◌||◌, List, [], ◌∷◌, ◌++◌, length, length-append, refl, ◌∙◌, ap, arith, le-leb}
use Rattle.std.specs.Prelude.{unsigned_abs, slice_index_or}
use Rattle.std.specs.List.{flat_map, list_all, list_any}
use Rattle.std.specs.Str.{bytes_eq}
use Rattle.std.proofs.lemmas.Bool.{and_parts, and_from}
use Rattle.std.proofs.lemmas.List.Sums.{count_by-le-length}
use Rattle.std.proofs.lemmas.Slice.Eq.{bytes_eq-Decides}
use Rattle.obd_base.specs.Lists.{Mem}
use Rattle.obd_base.specs.declared.points.Exit.{Exit}
use Rattle.obd_base.proofs.lists.Members.{mem_flat}
use Rattle.page_surface.specs.Drawing.{Drawing, IsEmbedded, all_exits, points_on}
use Rattle.page_surface.specs.Labels.{Label, all_sides, labels_of, with_label, with_labels}
use Rattle.page_surface.specs.Polygon.{partner, sides}
use Rattle.page_surface.proofs.EmbeddedTest.{all_from}
use Rattle.drawing.specs.Fingers.{AllLegal, pushed}
use Rattle.drawing.specs.declared.finger.Finger.{Finger}
use Rattle.drawing.proofs.Ends.{place_in, side_in}
use Rattle.drawing.proofs.FingerLaws.{keeps_embedded, keeps_polygon, two_exits_more}
use Rattle.mod2_rank.specs.Linear.{Ascends}
use Rattle.witness_check.specs.Lines.{finger_line}
use Rattle.witness_check.specs.Reading.{is_exit, is_name, is_number, is_signed}
use Rattle.witness_check.proofs.Kept.{At}

-- a number below the bound
pub small : (n : ℕ) → n ≤ 4294967295 → is_number n ≡ true
small n l = le-leb n 4294967295 l

-- a list of which each entry passes
pub all_pass : {A : Type 0} (p : A → Bool) (xs : List A) → ((i : ℕ) (a : A) → At xs i a → p a ≡ true) → list_all p xs ≡ true
all_pass p [] h = refl
all_pass p (x ∷ xs) h = and_from (p x) (list_all p xs) (h 0 x refl) (all_pass p xs (λ i a at. h (suc i) a at))

-- numbers that ascend below a small bound
pub ascending_small : (low high : ℕ) (xs : List ℕ) → high ≤ 4294967295 → Ascends low high xs → list_all is_number xs ≡ true
ascending_small low high [] l a = refl
ascending_small low high (x ∷ xs) l a = and_from (is_number x) (list_all is_number xs) (small x (omega (arith, l, a.1))) (ascending_small (suc x) high xs l a.2)

-- numbers with a sign that are small without it
pub small_signed : (z : ℤ) → unsigned_abs z ≤ 2147483647 → is_signed z ≡ true
small_signed (pos n) l = le-leb n 2147483647 l
small_signed (negsuc n) l = le-leb n 2147483647 (omega (arith, l))

-- a small number less another one
pub difference_small : (a b : ℕ) → a ≤ 1000000 → b ≤ 1000000 → is_signed (pos a -ℤ pos b) ≡ true
difference_small a zero la lb = le-leb (a + 0) 2147483647 (omega (arith, la))
difference_small a (suc b) la lb = go (ltb a (suc b))
  where
    go : (t : Bool) → is_signed (cond t (negsuc (suc b - suc a)) (pos (a - suc b))) ≡ true
    go true = le-leb (suc b - suc a) 2147483647 (omega (arith, lb))
    go false = le-leb (a - suc b) 2147483647 (omega (arith, la))

-- names: those of the labels are those of the sides
named_more : (labels : List Label) (label : Label) → list_all is_name labels ≡ true → is_name label ≡ true → list_all is_name (with_label labels label) ≡ true
named_more labels label h k = go (list_any (bytes_eq label) labels)
  where
    pushed_on : (xs : List Label) → list_all is_name xs ≡ true → list_all is_name (xs ++ label ∷ []) ≡ true
    pushed_on [] e = and_from (is_name label) true k refl
    pushed_on (x ∷ xs) e = let (p, q) = and_parts (is_name x) (list_all is_name xs) e in and_from (is_name x) (list_all is_name (xs ++ label ∷ [])) p (pushed_on xs q)

    go : (t : Bool) → list_all is_name (cond t labels (labels ++ label ∷ [])) ≡ true
    go true = h
    go false = pushed_on labels h

named_all : (labels sides : List Label) → list_all is_name labels ≡ true → list_all is_name sides ≡ true → list_all is_name (with_labels labels sides) ≡ true
named_all labels [] h k = h
named_all labels (side ∷ sides) h k =
    let (p, q) = and_parts (is_name side) (list_all is_name sides) k in named_all (with_label labels side) sides (named_more labels side h p) q

named_sides : (polygons : List (List Label)) → list_all (list_all is_name) polygons ≡ true → list_all is_name (all_sides polygons) ≡ true
named_sides [] h = refl
named_sides (polygon ∷ polygons) h =
    let (p, q) = and_parts (list_all is_name polygon) (list_all (list_all is_name) polygons) h in joined polygon p (named_sides polygons q)
  where
    joined : (xs : List Label) → list_all is_name xs ≡ true → list_all is_name (all_sides polygons) ≡ true → list_all is_name (xs ++ all_sides polygons) ≡ true
    joined [] p q = q
    joined (x ∷ xs) p q = let (a, b) = and_parts (is_name x) (list_all is_name xs) p in and_from (is_name x) (list_all is_name (xs ++ all_sides polygons)) a (joined xs b q)

pub named_labels : (polygons : List (List Label)) → list_all (list_all is_name) polygons ≡ true → list_all is_name (labels_of polygons) ≡ true
named_labels polygons h = named_all [] (all_sides polygons) refl (named_sides polygons h)

-- a name that is one of some names
pub named_among : (names : List (List ℕ)) (word : List ℕ) → list_all is_name names ≡ true → list_any (bytes_eq word) names ≡ true → is_name word ≡ true
named_among [] word h k = absurd (let bad : false ≡ true = k in cc)
named_among (n ∷ names) word h k =
    let (p, q) = and_parts (is_name n) (list_all is_name names) h in go (bytes_eq word n) refl k p (named_among names word q)
  where
    go : (t : Bool) → bytes_eq word n ≡ t → t || list_any (bytes_eq word) names ≡ true → is_name n ≡ true → (list_any (bytes_eq word) names ≡ true → is_name word ≡ true) → is_name word ≡ true
    go true e k p more = ap is_name ((bytes_eq-Decides word n).0 e) ∙ p
    go false e k p more = more k

-- and one of some names by its number
pub named_at : (names : List (List ℕ)) (i : ℕ) → list_all is_name names ≡ true → i < length names → is_name (slice_index_or names i []) ≡ true
named_at [] i h l = absurd (omega (arith, l))
named_at (n ∷ names) zero h l = (and_parts (is_name n) (list_all is_name names) h).0
named_at (n ∷ names) (suc i) h l = named_at names i (and_parts (is_name n) (list_all is_name names) h).1 (omega (arith, l))

-- a side has at most two points for each exit
pub few_on : (d : Drawing) (k : ℕ) → points_on d k ≤ 2 * length (all_exits d)
few_on d k =
    omega (arith, count_by-le-length (λ (e : Exit). eqb e.side k) (all_exits d), count_by-le-length (λ (e : Exit). eqb (partner d.polygon e.side) k) (all_exits d))

-- a strand has no more exits than all
few_in : (strands : List (List Exit)) (i : ℕ) → length (slice_index_or strands i []) ≤ length (flat_map (λ strand. strand) strands)
few_in [] i = omega arith
few_in (strand ∷ strands) zero = omega (arith, length-append strand (flat_map (λ strand. strand) strands))
few_in (strand ∷ strands) (suc i) = omega (arith, length-append strand (flat_map (λ strand. strand) strands), few_in strands i)

-- the exits of an embedded drawing with few points
pub small_exits : (d : Drawing) → IsEmbedded d → sides d.polygon ≤ 16 → length (all_exits d) ≤ 50000 → list_all (list_all is_exit) d.strands ≡ true
small_exits d ok few points =
    all_from (list_all is_exit) d.strands (λ strand m. all_from is_exit strand (λ e n.
    let there : Mem e (all_exits d) = mem_flat (λ (strand : List Exit). strand) d.strands strand e m n in
    let side = side_in d ok e there in
    let place = place_in d ok e there in
    and_from (is_number e.side) (is_number e.place) (small e.side (omega (arith, side, few))) (small e.place (omega (arith, place, few_on d e.side, points)))))

-- fingers that are legal one after another in a drawing with few points
pub small_fingers : (d : Drawing) → IsEmbedded d → sides d.polygon ≤ 16 → (fs : List Finger) → length (all_exits d) + 2 * length fs ≤ 50000 → AllLegal d fs → list_all finger_line.fits fs ≡ true
small_fingers d ok few [] points l = refl
small_fingers d ok few (f ∷ fs) points l =
    let legal = l.0 in
    let strand = legal.strand in
    let chord = legal.chord in
    let side = legal.side in
    let segment = legal.segment in
    let polygon : sides (pushed d f).polygon ≡ sides d.polygon = ap sides (keeps_polygon d ok f legal) in
    and_from (finger_line.fits f) (list_all finger_line.fits fs)
    (and_from (is_number f.strand) (is_number f.chord && (is_number f.side && is_number f.segment)) (small f.strand (omega (arith, strand, few)))
    (and_from (is_number f.chord) (is_number f.side && is_number f.segment) (small f.chord (omega (arith, chord, few_in d.strands f.strand, points)))
    (and_from (is_number f.side) (is_number f.segment) (small f.side (omega (arith, side, few)))
    (small f.segment (omega (arith, segment, few_on d f.side, points))))))
    (small_fingers (pushed d f) (keeps_embedded d ok f legal) (omega (arith, polygon, few)) fs (omega (arith, two_exits_more d ok f legal, points)) l.1)
