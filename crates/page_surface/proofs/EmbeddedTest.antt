-- The test `is_embedded` and the record `IsEmbedded` say the same.
use Rattle.std.proofs.Common.{◌≡◌, Bool, true, eqb, ltb, List, [], ◌∷◌, length, refl, ◌∙◌, ap, inl, inr}
use Rattle.std.specs.List.{list_all, sum_by}
use Rattle.std.proofs.lemmas.Bool.{eqb-true, eq-eqb, and_parts, and_from}
use Rattle.obd_base.specs.Lists.{below, Mem}
use Rattle.page_surface.specs.Polygon.{sides, arc_count, IsPolygon}
use Rattle.page_surface.specs.Drawing.{Drawing, all_exits, HasRightPlaces, has_right_places, right_on, stands_at, points_on, no_two_cross, chords, is_embedded, is_placed, IsPlaced, IsEmbedded}
use Rattle.obd_base.proofs.lists.Below.{all_below, mem_below}

-- a list passes where each member does
pub all_from : {X : Type 0} (p : X → Bool) (xs : List X) → ((x : X) → Mem x xs → p x ≡ true) → list_all p xs ≡ true
all_from p [] h = refl
all_from p (x ∷ xs) h = and_from (p x) (list_all p xs) (h x (inl refl)) (all_from p xs (λ y m. h y (inr m)))

-- each member of a list that passes does
pub all_in : {X : Type 0} (p : X → Bool) (x : X) (xs : List X) → list_all p xs ≡ true → Mem x xs → p x ≡ true
all_in p x [] h m = absurd m
all_in p x (y ∷ xs) h (inl e) = let r = and_parts (p y) (list_all p xs) h in ap p e ∙ r.0
all_in p x (y ∷ xs) h (inr m) = let r = and_parts (p y) (list_all p xs) h in all_in p x xs r.1 m

-- right places, from the test
pub right_places : (d : Drawing) → has_right_places d ≡ true → HasRightPlaces d
right_places d h k lk j lj =
    let a : right_on d k ≡ true = all_below (right_on d) (sides d.polygon) h k lk in
    eqb-true _ _ (all_below (λ j. eqb (sum_by (λ e. stands_at d e k j) (all_exits d)) 1) (points_on d k) a j lj)

-- and to it
pub places_right : (d : Drawing) → HasRightPlaces d → has_right_places d ≡ true
places_right d h =
    all_from (right_on d) (below (sides d.polygon)) (λ k m.
    all_from (λ j. eqb (sum_by (λ e. stands_at d e k j) (all_exits d)) 1) (below (points_on d k)) (λ j n. eq-eqb _ _ (h k (mem_below _ k m) j (mem_below _ j n))))

-- the tests say what the records say, on a polygon
pub placed_from_test : (d : Drawing) → IsPolygon d.polygon → is_placed d ≡ true → IsPlaced d
placed_from_test d ok h =
    let count = and_parts (eqb (length d.strands) (arc_count d.polygon)) _ h in
    let on = and_parts (list_all (λ e. ltb e.side (sides d.polygon)) (all_exits d)) (has_right_places d) count.1 in
    record { polygon = ok; strand_count = eqb-true _ _ count.0; on_sides = on.0; places = right_places d on.1 }

pub test_from_placed : (d : Drawing) → IsPlaced d → is_placed d ≡ true
test_from_placed d ok = and_from (eqb (length d.strands) (arc_count d.polygon)) _ (eq-eqb _ _ ok.strand_count)
    (and_from (list_all (λ e. ltb e.side (sides d.polygon)) (all_exits d)) (has_right_places d) ok.on_sides (places_right d ok.places))

pub embedded_from_test : (d : Drawing) → IsPolygon d.polygon → is_embedded d ≡ true → IsEmbedded d
embedded_from_test d ok h =
    let r = and_parts (is_placed d) (no_two_cross (chords d)) h in
    let placed = placed_from_test d ok r.0 in
    record { polygon = ok; strand_count = placed.strand_count; on_sides = placed.on_sides; places = placed.places; uncrossed = r.1 }

pub test_from_embedded : (d : Drawing) → IsEmbedded d → is_embedded d ≡ true
test_from_embedded d ok = and_from (is_placed d) (no_two_cross (chords d))
    (test_from_placed d (record { polygon = ok.polygon; strand_count = ok.strand_count; on_sides = ok.on_sides; places = ok.places })) ok.uncrossed
