-- A drawing after a finger has right places, and it is embedded where its chords don't cross.
use Rattle.std.proofs.Common.{◌≡◌, ℕ, suc, ◌+◌, ◌-◌, ◌*◌, ◌<◌, ◌≤◌, Bool, true, false, eqb, ltb, leb, not, ◌&&◌, List, [], ◌∷◌, refl, sym, ◌∙◌, ap, subst, arith, ◌⊎◌, inl, inr, ◌≢◌}
use Rattle.std.specs.List.{list_all, sum_by}
use Rattle.std.proofs.lemmas.Bool.{cases_eq, cases_lt, eq-eqb, ne_eqb, le-leb, lt-leb, lt-ltb, and_from}
use Rattle.std.proofs.lemmas.List.Sums.{sum_by-cons}
use Rattle.obd_base.specs.Lists.{Mem, Once}
use Rattle.obd_base.specs.declared.points.Exit.{Exit}
use Rattle.obd_base.proofs.lists.Below.{bit}
use Rattle.obd_base.proofs.lists.Sums.{bit-le, sum_same, sum_none}
use Rattle.page_surface.specs.Drawing.{Chord, Drawing, HasRightPlaces, IsEmbedded, IsPlaced, all_exits, chords, crosses, entry, no_two_cross, offset, points_on, spot, stands_at}
use Rattle.page_surface.specs.Polygon.{sides}
use Rattle.page_surface.proofs.EmbeddedTest.{all_from}
use Rattle.drawing.specs.declared.finger.Finger.{Finger}
use Rattle.drawing.specs.Fingers.{InRange, carried, entered, entered_beyond, with_letters}
use Rattle.drawing.proofs.Placed.{at_most_one_end-placed, ends_at, exit_stands, place_in-placed, side_in-placed}
use Rattle.drawing.proofs.fingers.Shift.{shift, early, early_apart, shift_new, shift_swap}
use Rattle.drawing.proofs.fingers.Finger.{shift_apart}
use Rattle.drawing.proofs.fingers.Arranged.{Arranged}
use Rattle.drawing.proofs.fingers.Premise.{arranged_from, ends_of}
use Rattle.drawing.proofs.fingers.NewPlaces.{far_in, far_segment, far_side, count_new, points_else, points_far, points_near, points_new, sum_new, way_back, way_out}
use Rattle.drawing.proofs.fingers.NewSpots.{after_else, after_far, after_near, by_side, carried_place, entered_apart, entry_kept, back_entry, back_spot, out_entry, out_spot, place_after, spot_after, spot_kept}

-- a number that is an end is counted
pub end_counted : (x : ℕ) (cs : List Chord) → Mem x (ends_of cs) → 1 ≤ ends_at cs x
end_counted x [] m = absurd m
end_counted x (c ∷ cs) m =
    let s = sum_by-cons (λ (e : Chord). bit (eqb e.from x) + bit (eqb e.to x)) c cs in
    elim m [
      | inl q ↦ (let z : bit (eqb c.from x) ≡ 1 = rw (eq-eqb c.from x (sym q)) refl in omega (arith, s, z))
      | inr m ↦ elim m [
        | inl q ↦ (let z : bit (eqb c.to x) ≡ 1 = rw (eq-eqb c.to x (sym q)) refl in omega (arith, s, z))
        | inr m ↦ (let ih = end_counted x cs m in omega (arith, s, ih))
      ]
    ]

-- where no number is an end twice, the ends are all different
once_ends : (cs : List Chord) → ((x : ℕ) → ends_at cs x ≤ 1) → Once (ends_of cs)
once_ends [] h = tt
once_ends (c ∷ cs) h =
    let s : (x : ℕ) → ends_at (c ∷ cs) x ≡ bit (eqb c.from x) + bit (eqb c.to x) + ends_at cs x = λ x. sum_by-cons (λ (e : Chord). bit (eqb e.from x) + bit (eqb e.to x)) c cs in
    let a : bit (eqb c.from c.from) ≡ 1 = rw (eq-eqb c.from c.from refl) refl in
    let b : bit (eqb c.to c.to) ≡ 1 = rw (eq-eqb c.to c.to refl) refl in (
      λ m. elim m [
        | inl q ↦ (let z : bit (eqb c.to c.from) ≡ 1 = rw (eq-eqb c.to c.from (sym q)) refl in omega (arith, h c.from, s c.from, a, z))
        | inr m ↦ omega (arith, h c.from, s c.from, a, end_counted c.from cs m)
      ],
      ((λ m. omega (arith, h c.to, s c.to, b, end_counted c.to cs m)), once_ends cs (λ x. omega (arith, h x, s x))),
    )

-- an embedded drawing is placed
pub placed : (d : Drawing) → IsEmbedded d → IsPlaced d
placed d ok = record { polygon = ok.polygon; strand_count = ok.strand_count; on_sides = ok.on_sides; places = ok.places }

-- the chords of an embedded drawing share no end and don't cross
pub arranged : (d : Drawing) → IsEmbedded d → Arranged (chords d)
arranged d ok = arranged_from (chords d) (once_ends (chords d) (at_most_one_end-placed d (placed d ok))) ok.uncrossed

-- chords that share no end and don't cross pass the test
pub uncrossed_from : (cs : List Chord) → Arranged cs → no_two_cross cs ≡ true
uncrossed_from [] ok = refl
uncrossed_from (c ∷ cs) ok =
    and_from (list_all (λ e. not (crosses c e)) cs) (no_two_cross cs) (all_from (λ e. not (crosses c e)) cs (λ e m. ap not (ok.1 e m).uncrossed)) (uncrossed_from cs ok.2)

-- a list of which nothing fails
all_pass : {X : Type 0} (p : X → Bool) (xs : List X) → sum_by (λ x. bit (not (p x))) xs ≡ 0 → list_all p xs ≡ true
all_pass p [] h = refl
all_pass p (x ∷ xs) h =
    let s = sum_by-cons (λ x. bit (not (p x))) x xs in
    and_from (p x) (list_all p xs) (passes (p x) (omega (arith, s, h))) (all_pass p xs (omega (arith, s, h)))
  where
    passes : (b : Bool) → bit (not b) ≡ 0 → b ≡ true
    passes true e = refl
    passes false e = absurd (let z : ⊥ = omega (arith, e) in z)

bit_part : (a b : Bool) → bit (a && b) ≤ bit a
bit_part true b = bit-le b
bit_part false b = omega arith

-- two places and two more, each met once
met_once : (a b y o : ℕ) → o ≤ 1 → a ≢ b → a ≢ suc b → b ≢ suc a → (y ≡ a) ⊎ ((y ≡ suc a) ⊎ ((y ≡ b) ⊎ (y ≡ suc b)))
    → bit (eqb (a + o) y) + bit (eqb (b + (1 - o)) y) + (bit (eqb (b + o) y) + bit (eqb (a + (1 - o)) y)) ≡ 1
met_once a b y o l p q s w = omega (arith, is (a + o), is (b + (1 - o)), is (b + o), is (a + (1 - o)), l, p, q, s, w)
  where
    is : (x : ℕ) → ((x ≡ y) × (bit (eqb x y) ≡ 1)) ⊎ ((x ≢ y) × (bit (eqb x y) ≡ 0))
    is x = elim (cases_eq x y) [ inl e ↦ inl (e, rw (eq-eqb x y e) refl) | inr n ↦ inr (n, rw (ne_eqb x y n) refl) ]

module _ (d : Drawing) (ok : IsEmbedded d) (f : Finger) (o : ℕ) (small : o ≤ 1) (r : InRange d f) where
  abbrev after : Drawing
  after = with_letters d f o

  abbrev t : ℕ
  t = entered d f

  abbrev u : ℕ
  u = entered_beyond d f

  abbrev moved : ℕ → ℕ
  moved = shift t u

  apart : t ≢ u
  apart = entered_apart d ok f o small r

  -- the four new numbers
  abbrev IsNew : ℕ → Type 0
  IsNew y = (y ≡ early t u) ⊎ ((y ≡ suc (early t u)) ⊎ ((y ≡ early u t) ⊎ (y ≡ suc (early u t))))

  -- no old number becomes one of them
  moved_old : (x y : ℕ) → IsNew y → moved x ≢ y
  moved_old x y w q = elim w [
    | inl e ↦ (shift_new t u x).0 (q ∙ e)
    | inr w ↦ elim w [
      | inl e ↦ (shift_new t u x).1 (q ∙ e)
      | inr w ↦ elim w [
        | inl e ↦ (shift_new u t x).0 (sym (shift_swap t u x) ∙ (q ∙ e))
        | inr e ↦ (shift_new u t x).1 (sym (shift_swap t u x) ∙ (q ∙ e))
      ]
    ]
  ]

  -- the two pairs are apart
  pairs_apart : (early t u ≢ early u t) × (early t u ≢ suc (early u t)) × (early u t ≢ suc (early t u))
  pairs_apart = elim (cases_lt t u) [
    | inl l ↦ (let z = early_apart t u l in ((λ q. omega (arith, z, q)), (λ q. omega (arith, z, q)), (λ q. omega (arith, z, q))))
    | inr l ↦ (let k : u < t = omega (arith, l, apart) in let z = early_apart u t k in ((λ q. omega (arith, z, q)), (λ q. omega (arith, z, q)), (λ q. omega (arith, z, q))))
  ]

  -- an old place stays on its side
  after_in : (l p : ℕ) → p < points_on d l → place_after d ok f o small r l p < points_on after l
  after_in l p h = omega (arith, points_new d ok f o small r l, bit_part (eqb f.side l) (leb f.segment p), bit_part (eqb (far_side d ok f o small r) l) (leb (far_segment d ok f o small r) p))

  -- what a place after the finger is: an old one, or a new one
  abbrev Found : ℕ → ℕ → Type 0
  Found l q = ((p : ℕ) × (p < points_on d l) × (place_after d ok f o small r l p ≡ q)) ⊎ IsNew (offset after l + q)

  -- on a side with two new places
  two_places : (l s m : ℕ) → points_on d l ≡ m → s ≤ m → ((p : ℕ) → place_after d ok f o small r l p ≡ p + 2 * bit (leb s p))
      → IsNew (offset after l + s) → IsNew (offset after l + suc s) → (q : ℕ) → q < m + 2 → Found l q
  two_places l s m pm ls rule one two q h = elim (cases_lt q s) [
    | inl a ↦ inl (q, omega (arith, pm, ls, a), (let z : bit (leb s q) ≡ 0 = rw (lt-leb s q a) refl in omega (arith, rule q, z)))
    | inr a ↦ elim (cases_eq q s) [
      | inl e ↦ inr (subst (λ w. IsNew (offset after l + w)) (sym e) one)
      | inr n ↦ elim (cases_eq q (suc s)) [
        | inl e ↦ inr (subst (λ w. IsNew (offset after l + w)) (sym e) two)
        | inr m ↦ inl (q - 2, omega (arith, pm, h, a, n, m), (let z : bit (leb s (q - 2)) ≡ 1 = rw (le-leb s (q - 2) (omega (arith, a, n, m))) refl in omega (arith, rule (q - 2), z, a, n, m)))
      ]
    ]
  ]

  -- the two new places on the finger's side
  near_new : IsNew (offset after f.side + f.segment) × IsNew (offset after f.side + suc f.segment)
  near_new = let z = out_spot d ok f o small r in (inl (omega (arith, z)), inr (inl (omega (arith, z))))

  far_new : IsNew (offset after (far_side d ok f o small r) + far_segment d ok f o small r) × IsNew (offset after (far_side d ok f o small r) + suc (far_segment d ok f o small r))
  far_new = let z = back_spot d ok f o small r in (inr (inr (inl (omega (arith, z)))), inr (inr (inr (omega (arith, z)))))

  found : (l q : ℕ) → q < points_on after l → Found l q
  found l q h = by_side d ok f o small r (λ l. q < points_on after l → Found l q)
      (λ h. two_places f.side f.segment (points_on d f.side) refl r.segment (after_near d ok f o small r) near_new.0 near_new.1 q (omega (arith, h, points_near d ok f o small r)))
      (λ h. two_places (far_side d ok f o small r) (far_segment d ok f o small r) (points_on d (far_side d ok f o small r)) refl (far_in d ok f o small r) (after_far d ok f o small r) far_new.0 far_new.1 q
      (omega (arith, h, points_far d ok f o small r)))
      (λ l a b h. inl (q, omega (arith, h, points_else d ok f o small r l a b), after_else d ok f o small r l q a b))
      l h

  -- an old exit, carried, stands on its side
  carried_in : (x : Exit) → Mem x (all_exits d) → (carried d f x).place < points_on after x.side
  carried_in x m =
      let h = place_in-placed d (placed d ok) x m in
      omega (arith, after_in x.side x.place h, carried_place d ok f o small r x.side x.place)

  -- how often it stands at a place
  carried_stands : (l q : ℕ) → q < points_on after l → (x : Exit) → Mem x (all_exits d)
      → stands_at after (carried d f x) l q ≡ bit (eqb (moved (spot d x)) (offset after l + q)) + bit (eqb (moved (spot d (entry d x))) (offset after l + q))
  carried_stands l q h x m =
      let y = offset after l + q in
      let px = place_in-placed d (placed d ok) x m in
      let a : bit (eqb (spot after (carried d f x)) y) ≡ bit (eqb (moved (spot d x)) y) = ap (λ z. bit (eqb z y)) (spot_kept d ok f o small r x px) in
      let b : bit (eqb (spot after (entry after (carried d f x))) y) ≡ bit (eqb (moved (spot d (entry d x))) y) = ap (λ z. bit (eqb z y)) (entry_kept d ok f o small r x px) in
      sym (exit_stands after ok.polygon l q h (carried d f x) (carried_in x m)) ∙ omega (arith, a, b)

  -- how often the two new exits stand there
  new_stands : (l q : ℕ) → q < points_on after l
      → stands_at after (way_out d ok f o small r) l q + stands_at after (way_back d ok f o small r) l q
      ≡ (let y = offset after l + q in
      bit (eqb (early t u + o) y) + bit (eqb (early u t + (1 - o)) y) + (bit (eqb (early u t + o) y) + bit (eqb (early t u + (1 - o)) y)))
  new_stands l q h =
      let y = offset after l + q in
      let at : (x z : ℕ) → x ≡ z → bit (eqb x y) ≡ bit (eqb z y) = λ x z e. ap (λ w. bit (eqb w y)) e in
      let one = exit_stands after ok.polygon l q h (way_out d ok f o small r) (omega (arith, points_near d ok f o small r, r.segment, small)) in
      let two = exit_stands after ok.polygon l q h (way_back d ok f o small r) (omega (arith, points_far d ok f o small r, far_in d ok f o small r, small)) in
      omega (arith, one, two, at _ _ (out_spot d ok f o small r), at _ _ (out_entry d ok f o small r), at _ _ (back_spot d ok f o small r), at _ _ (back_entry d ok f o small r))

  moved_eqb : (x y : ℕ) → eqb (moved x) (moved y) ≡ eqb x y
  moved_eqb x y = elim (cases_eq x y) [
    | inl q ↦ rw (eq-eqb x y q, eq-eqb (moved x) (moved y) (ap moved q)) refl
    | inr n ↦ rw (ne_eqb x y n, ne_eqb (moved x) (moved y) (shift_apart t u x y n)) refl
  ]

  not_new : (x y : ℕ) → IsNew y → bit (eqb (moved x) y) ≡ 0
  not_new x y w = rw (ne_eqb (moved x) y (moved_old x y w)) refl

  -- places are right
  pub places_right : HasRightPlaces after
  places_right l ll q lq =
      let y = offset after l + q in
      let both = sum_new d ok f o small r (λ x. stands_at after x l q) in
      let old = sum_same (λ x. stands_at after (carried d f x) l q) (λ x. bit (eqb (moved (spot d x)) y) + bit (eqb (moved (spot d (entry d x))) y)) (all_exits d) (carried_stands l q lq) in
      elim (found l q lq) [
        | inl w ↦
            (let (p, lp, e) = w in
            let z = offset d l + p in
            let at : moved z ≡ y = spot_after d ok f o small r l p (omega (arith, lp)) ∙ ap (λ w. offset after l + w) e in
            let same : (x : ℕ) → bit (eqb (moved x) y) ≡ bit (eqb x z) = λ x. ap (λ w. bit (eqb (moved x) w)) (sym at) ∙ ap bit (moved_eqb x z) in
            let again = sum_same (λ x. bit (eqb (moved (spot d x)) y) + bit (eqb (moved (spot d (entry d x))) y)) (λ x. stands_at d x l p) (all_exits d)
            (λ x m. let i = exit_stands d ok.polygon l p lp x (place_in-placed d (placed d ok) x m) in omega (arith, same (spot d x), same (spot d (entry d x)), i)) in
            let none : (x : ℕ) → IsNew x → bit (eqb x y) ≡ 0 = λ x w. let ne : x ≢ y = λ q. moved_old z x w (at ∙ sym q) in rw (ne_eqb x y ne) refl in
            let a = none (early t u + o) (new_one (early t u) (early u t) o small) in
            let b = none (early u t + (1 - o)) (other_pair (new_one (early u t) (early t u) (1 - o) (omega arith))) in
            let c = none (early u t + o) (other_pair (new_one (early u t) (early t u) o small)) in
            let g = none (early t u + (1 - o)) (new_one (early t u) (early u t) (1 - o) (omega arith)) in
            omega (arith, both, old, again, ok.places l ll p lp, new_stands l q lq, a, b, c, g))
        | inr w ↦
            (let none = sum_none (λ x. bit (eqb (moved (spot d x)) y) + bit (eqb (moved (spot d (entry d x))) y)) (all_exits d)
            (λ x m. omega (arith, not_new (spot d x) y w, not_new (spot d (entry d x)) y w)) in
            let once = met_once (early t u) (early u t) y o small pairs_apart.0 pairs_apart.1 pairs_apart.2 w in
            omega (arith, both, old, none, new_stands l q lq, once))
      ]
    where
      new_one : (a b o : ℕ) → o ≤ 1 → (a + o ≡ a) ⊎ ((a + o ≡ suc a) ⊎ ((a + o ≡ b) ⊎ (a + o ≡ suc b)))
      new_one a b o l = elim (cases_eq o 0) [ inl e ↦ inl (omega (arith, e)) | inr n ↦ inr (inl (omega (arith, l, n))) ]

      other_pair : {a b y : ℕ} → (y ≡ a) ⊎ ((y ≡ suc a) ⊎ ((y ≡ b) ⊎ (y ≡ suc b))) → (y ≡ b) ⊎ ((y ≡ suc b) ⊎ ((y ≡ a) ⊎ (y ≡ suc a)))
      other_pair (inl e) = inr (inr (inl e))
      other_pair (inr (inl e)) = inr (inr (inr e))
      other_pair (inr (inr (inl e))) = inl e
      other_pair (inr (inr (inr e))) = inr (inl e)

  -- the exits stand on sides
  on_sides : list_all (λ e. ltb e.side (sides d.polygon)) (all_exits after) ≡ true
  on_sides =
      let g : Exit → ℕ = λ x. bit (not (ltb x.side (sides d.polygon))) in
      let inside : (x : ℕ) → x < sides d.polygon → bit (not (ltb x (sides d.polygon))) ≡ 0 = λ x l. rw (lt-ltb x (sides d.polygon) l) refl in
      let old = sum_none g (all_exits d) (λ x m. inside x.side (side_in-placed d (placed d ok) x m)) in
      let both = sum_new d ok f o small r g in
      all_pass (λ e. ltb e.side (sides d.polygon)) (all_exits after)
      (omega (arith, both, old, inside f.side r.side, inside (far_side d ok f o small r) (ok.polygon.pairs.in_range f.side r.side)))

  -- the drawing is embedded where its chords share no end and don't cross
  pub embedded_after : Arranged (chords after) → IsEmbedded after
  embedded_after a = record { polygon = ok.polygon; strand_count = count_new d ok f o small r; on_sides = on_sides; places = places_right; uncrossed = uncrossed_from (chords after) a }
