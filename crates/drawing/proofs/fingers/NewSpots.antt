-- A drawing after a finger: where old places, gaps, and the two new points stand.
use Rattle.std.proofs.Common.{◌≡◌, ℕ, ◌+◌, ◌-◌, ◌*◌, ◌<◌, ◌≤◌, ltb, leb, refl, sym, ◌∙◌, ap, subst, arith, inl, inr, ◌≢◌}
use Rattle.std.proofs.lemmas.Bool.{cases_eq, cases_lt, eq-eqb, ne_eqb, lt-ltb, le-ltb, le-leb, lt-leb}
use Rattle.obd_base.specs.declared.points.Exit.{Exit}
use Rattle.obd_base.proofs.lists.Below.{bit}
use Rattle.page_surface.specs.Drawing.{Drawing, IsEmbedded, end_of, entry, exit, offset, points_on, spot}
use Rattle.page_surface.specs.Polygon.{partner}
use Rattle.page_surface.proofs.Partners.{points_partner}
use Rattle.drawing.specs.declared.finger.Finger.{Finger}
use Rattle.drawing.specs.Fingers.{InRange, carried, entered, entered_beyond}
use Rattle.drawing.specs.Pieces.{gap}
use Rattle.drawing.proofs.Spots.{offset_rises}
use Rattle.drawing.proofs.tight.TwoMore.{offset_old, raised, raised_place, raised_spot}
use Rattle.drawing.proofs.fingers.Shift.{shift, early, room}
use Rattle.drawing.proofs.fingers.NewPlaces.{new, far_side, far_segment, way_out, way_back, sides_apart, partner_back, points_new, far_in, points_near, points_far, points_else}

-- a place and its other name stay such when both are moved past two places that are the same
opposite_places : (a b m p : ℕ) → a + b ≡ m → p < m → (m - 1 - p) + 2 * bit (leb b (m - 1 - p)) ≡ m + 2 - 1 - (p + 2 * bit (leb a p))
opposite_places a b m p h l = elim (cases_lt p a) [
  | inl q ↦ rw (lt-leb a p q, le-leb b (m - 1 - p) (omega arith)) (omega arith)
  | inr q ↦ rw (le-leb a p q, lt-leb b (m - 1 - p) (omega arith)) (omega arith)
]

-- two where a number isn't below another
room_is : (x t : ℕ) → 2 * bit (leb t x) ≡ room x t
room_is x t = elim (cases_lt x t) [
  | inl l ↦ rw (lt-ltb x t l, lt-leb t x l) refl
  | inr l ↦ rw (le-ltb x t l, le-leb t x l) refl
]

module _ (d : Drawing) (ok : IsEmbedded d) (f : Finger) (o : ℕ) (small : o ≤ 1) (r : InRange d f) where
  -- where a place of a side is afterwards
  abbrev pub place_after : ℕ → ℕ → ℕ
  place_after = raised_place (new d ok f o small r) d f.side (far_side d ok f o small r) f.segment (far_segment d ok f o small r) (points_new d ok f o small r) r.segment (far_in d ok f o small r)

  -- the new number of an old one is the shifted one
  pub raised_is : (x : ℕ) → raised (new d ok f o small r) d f.side (far_side d ok f o small r) f.segment (far_segment d ok f o small r) (points_new d ok f o small r) r.segment (far_in d ok f o small r) x ≡ shift (entered d f) (entered_beyond d f) x
  raised_is x = omega (arith, room_is x (entered d f), room_is x (entered_beyond d f))

  -- the new number of an old place
  pub spot_after : (l p : ℕ) → p ≤ points_on d l + 1 → shift (entered d f) (entered_beyond d f) (offset d l + p) ≡ offset (new d ok f o small r) l + place_after l p
  spot_after l p h = sym (raised_is (offset d l + p)) ∙ raised_spot (new d ok f o small r) d f.side (far_side d ok f o small r) f.segment (far_segment d ok f o small r) (points_new d ok f o small r) r.segment (far_in d ok f o small r) l p h

  -- on the finger's side
  pub after_near : (p : ℕ) → place_after f.side p ≡ p + 2 * bit (leb f.segment p)
  after_near p = rw (eq-eqb f.side f.side refl, ne_eqb (far_side d ok f o small r) f.side (sides_apart d ok f o small r)) (omega arith)

  -- on its partner
  pub after_far : (p : ℕ) → place_after (far_side d ok f o small r) p ≡ p + 2 * bit (leb (far_segment d ok f o small r) p)
  after_far p = rw (eq-eqb (far_side d ok f o small r) (far_side d ok f o small r) refl, ne_eqb f.side (far_side d ok f o small r) (λ q. (sides_apart d ok f o small r) (sym q))) (omega arith)

  -- on another side
  pub after_else : (l p : ℕ) → l ≢ f.side → l ≢ (far_side d ok f o small r) → place_after l p ≡ p
  after_else l p a b = rw (ne_eqb f.side l (λ q. a (sym q)), ne_eqb (far_side d ok f o small r) l (λ q. b (sym q))) (omega arith)

  -- each side is the finger's, its partner, or another one
  pub by_side : (X : ℕ → Type 0) → X f.side → X (far_side d ok f o small r) → ((l : ℕ) → l ≢ f.side → l ≢ (far_side d ok f o small r) → X l) → (l : ℕ) → X l
  by_side X a b c l = elim (cases_eq l f.side) [
    | inl q ↦ subst X (sym q) a
    | inr p ↦ elim (cases_eq l (far_side d ok f o small r)) [ inl q ↦ subst X (sym q) b | inr q ↦ c l p q ]
  ]

  -- the carried place
  pub carried_place : (l p : ℕ) → (carried d f (exit l p)).place ≡ place_after l p
  carried_place l p = by_side (λ l. (carried d f (exit l p)).place ≡ place_after l p)
      (let z : (carried d f (exit f.side p)).place ≡ p + room p f.segment = rw (eq-eqb f.side f.side refl) refl in
      z ∙ sym (after_near p ∙ ap (λ w. p + w) (room_is p f.segment)))
      (let z : (carried d f (exit (far_side d ok f o small r) p)).place ≡ p + room p (far_segment d ok f o small r) = rw (ne_eqb (far_side d ok f o small r) f.side (sides_apart d ok f o small r), eq-eqb (far_side d ok f o small r) (far_side d ok f o small r) refl) refl in
      z ∙ sym (after_far p ∙ ap (λ w. p + w) (room_is p (far_segment d ok f o small r))))
      (λ l a b. let z : (carried d f (exit l p)).place ≡ p + 0 = rw (ne_eqb l f.side a, ne_eqb l (far_side d ok f o small r) b) refl in
      z ∙ (let y : p + 0 ≡ p = omega arith in y ∙ sym (after_else l p a b)))
      l

  -- a place and its other name stay such
  pub other_name : (l p : ℕ) → p < points_on d l → place_after (partner d.polygon l) (points_on d l - 1 - p) ≡ points_on (new d ok f o small r) l - 1 - place_after l p
  other_name l p h = by_side (λ l. p < points_on d l → place_after (partner d.polygon l) (points_on d l - 1 - p) ≡ points_on (new d ok f o small r) l - 1 - place_after l p)
      (λ h.
      let a = after_far (points_on d f.side - 1 - p) in
      let b = opposite_places f.segment (far_segment d ok f o small r) (points_on d f.side) p (omega (arith, r.segment)) h in
      a ∙ (b ∙ (let c = (points_near d ok f o small r) in let e = after_near p in omega (arith, c, e))))
      (λ h.
      let q = points_partner d ok.polygon f.side in
      let a = after_near (points_on d (far_side d ok f o small r) - 1 - p) in
      let b = opposite_places (far_segment d ok f o small r) f.segment (points_on d (far_side d ok f o small r)) p (omega (arith, r.segment, q)) h in
      ap (λ w. place_after w (points_on d (far_side d ok f o small r) - 1 - p)) (partner_back d ok f o small r) ∙ (a ∙ (b ∙ (let c = (points_far d ok f o small r) in let e = after_far p in omega (arith, c, e)))))
      (λ l a b h.
      let p1 : partner d.polygon l ≢ f.side = λ q. b (sym (ok.polygon.pairs.twice l) ∙ ap (partner d.polygon) q) in
      let p2 : partner d.polygon l ≢ (far_side d ok f o small r) = λ q. a (sym (ok.polygon.pairs.twice l) ∙ (ap (partner d.polygon) q ∙ (partner_back d ok f o small r))) in
      after_else (partner d.polygon l) (points_on d l - 1 - p) p1 p2 ∙ (let x = (points_else d ok f o small r) l a b in let y = after_else l p a b in omega (arith, x, y)))
      l h

  -- an old exit, carried, has its number shifted
  pub spot_kept : (x : Exit) → x.place < points_on d x.side → spot (new d ok f o small r) (carried d f x) ≡ shift (entered d f) (entered_beyond d f) (spot d x)
  spot_kept x h = ap (λ p. offset (new d ok f o small r) x.side + p) (carried_place x.side x.place) ∙ sym (spot_after x.side x.place (omega arith))

  -- so has its entry
  pub entry_kept : (x : Exit) → x.place < points_on d x.side → spot (new d ok f o small r) (entry (new d ok f o small r) (carried d f x)) ≡ shift (entered d f) (entered_beyond d f) (spot d (entry d x))
  entry_kept x h =
      let e = partner d.polygon x.side in
      let one : points_on (new d ok f o small r) x.side - 1 - (carried d f x).place ≡ place_after e (points_on d x.side - 1 - x.place)
      = ap (λ p. points_on (new d ok f o small r) x.side - 1 - p) (carried_place x.side x.place) ∙ sym (other_name x.side x.place h) in
      ap (λ p. offset (new d ok f o small r) e + p) one ∙ sym (spot_after e (points_on d x.side - 1 - x.place) (omega (arith, points_partner d ok.polygon x.side)))

  -- and the end of a side
  pub end_kept : (l : ℕ) → spot (new d ok f o small r) (end_of (new d ok f o small r) l) ≡ shift (entered d f) (entered_beyond d f) (spot d (end_of d l))
  end_kept l = ap (λ p. offset (new d ok f o small r) l + p) (sym place) ∙ sym (spot_after l (points_on d l) (omega arith))
    where
      place : place_after l (points_on d l) ≡ points_on (new d ok f o small r) l
      place = by_side (λ l. place_after l (points_on d l) ≡ points_on (new d ok f o small r) l)
          (after_near (points_on d f.side) ∙ (let z : bit (leb f.segment (points_on d f.side)) ≡ 1 = rw (le-leb f.segment (points_on d f.side) r.segment) refl in omega (arith, z, (points_near d ok f o small r))))
          (after_far (points_on d (far_side d ok f o small r)) ∙ (let z : bit (leb (far_segment d ok f o small r) (points_on d (far_side d ok f o small r))) ≡ 1 = rw (le-leb (far_segment d ok f o small r) (points_on d (far_side d ok f o small r)) (far_in d ok f o small r)) refl in omega (arith, z, (points_far d ok f o small r))))
          (λ l a b. after_else l (points_on d l) a b ∙ sym ((points_else d ok f o small r) l a b))
          l

  -- gaps
  pub gap_kept : (l : ℕ) → gap (new d ok f o small r) l ≡ shift (entered d f) (entered_beyond d f) (gap d l)
  gap_kept l =
      let a : gap d l ≡ offset d l + (points_on d l + 1) = omega arith in
      let b : gap (new d ok f o small r) l ≡ offset (new d ok f o small r) l + (points_on (new d ok f o small r) l + 1) = omega arith in
      b ∙ (ap (λ p. offset (new d ok f o small r) l + p) (sym place) ∙ (sym (spot_after l (points_on d l + 1) (omega arith)) ∙ ap (shift (entered d f) (entered_beyond d f)) (sym a)))
    where
      place : place_after l (points_on d l + 1) ≡ points_on (new d ok f o small r) l + 1
      place = by_side (λ l. place_after l (points_on d l + 1) ≡ points_on (new d ok f o small r) l + 1)
          (after_near (points_on d f.side + 1) ∙ (let z : bit (leb f.segment (points_on d f.side + 1)) ≡ 1 = rw (le-leb f.segment (points_on d f.side + 1) (omega (arith, r.segment))) refl in omega (arith, z, (points_near d ok f o small r))))
          (after_far (points_on d (far_side d ok f o small r) + 1) ∙ (let z : bit (leb (far_segment d ok f o small r) (points_on d (far_side d ok f o small r) + 1)) ≡ 1 = rw (le-leb (far_segment d ok f o small r) (points_on d (far_side d ok f o small r) + 1) (omega (arith, (far_in d ok f o small r)))) refl in omega (arith, z, (points_far d ok f o small r))))
          (λ l a b. after_else l (points_on d l + 1) a b ∙ ap (λ p. p + 1) (sym ((points_else d ok f o small r) l a b)))
          l

  -- where the two sides begin
  begin_near : offset (new d ok f o small r) f.side + f.segment ≡ early (entered d f) (entered_beyond d f)
  begin_near =
      let a = offset_old (new d ok f o small r) d f.side (far_side d ok f o small r) f.segment (far_segment d ok f o small r) (points_new d ok f o small r) r.segment (far_in d ok f o small r) f.side in
      let b : bit (ltb f.side f.side) ≡ 0 = rw (le-ltb f.side f.side (omega arith)) refl in
      elim (cases_lt (far_side d ok f o small r) f.side) [
        | inl l ↦ (let c : bit (ltb (far_side d ok f o small r) f.side) ≡ 1 = rw (lt-ltb (far_side d ok f o small r) f.side l) refl in
            let g : room (entered d f) (entered_beyond d f) ≡ 2 = rw (le-ltb (entered d f) (entered_beyond d f) (omega (arith, offset_rises d (far_side d ok f o small r) f.side l, (far_in d ok f o small r)))) refl in
            omega (arith, a, b, c, g))
        | inr l ↦ (let c : bit (ltb (far_side d ok f o small r) f.side) ≡ 0 = rw (le-ltb (far_side d ok f o small r) f.side l) refl in
            let ne : f.side < (far_side d ok f o small r) = let z = (sides_apart d ok f o small r) in omega (arith, l, z) in
            let g : room (entered d f) (entered_beyond d f) ≡ 0 = rw (lt-ltb (entered d f) (entered_beyond d f) (omega (arith, offset_rises d f.side (far_side d ok f o small r) ne, r.segment))) refl in
            omega (arith, a, b, c, g))
      ]

  begin_far : offset (new d ok f o small r) (far_side d ok f o small r) + (far_segment d ok f o small r) ≡ early (entered_beyond d f) (entered d f)
  begin_far =
      let a = offset_old (new d ok f o small r) d f.side (far_side d ok f o small r) f.segment (far_segment d ok f o small r) (points_new d ok f o small r) r.segment (far_in d ok f o small r) (far_side d ok f o small r) in
      let b : bit (ltb (far_side d ok f o small r) (far_side d ok f o small r)) ≡ 0 = rw (le-ltb (far_side d ok f o small r) (far_side d ok f o small r) (omega arith)) refl in
      elim (cases_lt f.side (far_side d ok f o small r)) [
        | inl l ↦ (let c : bit (ltb f.side (far_side d ok f o small r)) ≡ 1 = rw (lt-ltb f.side (far_side d ok f o small r) l) refl in
            let g : room (entered_beyond d f) (entered d f) ≡ 2 = rw (le-ltb (entered_beyond d f) (entered d f) (omega (arith, offset_rises d f.side (far_side d ok f o small r) l, r.segment))) refl in
            omega (arith, a, b, c, g))
        | inr l ↦ (let c : bit (ltb f.side (far_side d ok f o small r)) ≡ 0 = rw (le-ltb f.side (far_side d ok f o small r) l) refl in
            let ne : (far_side d ok f o small r) < f.side = let z = (sides_apart d ok f o small r) in omega (arith, l, z) in
            let g : room (entered_beyond d f) (entered d f) ≡ 0 = rw (lt-ltb (entered_beyond d f) (entered d f) (omega (arith, offset_rises d (far_side d ok f o small r) f.side ne, (far_in d ok f o small r)))) refl in
            omega (arith, a, b, c, g))
      ]

  -- the numbers of the two new exits and of their entries
  pub out_spot : spot (new d ok f o small r) (way_out d ok f o small r) ≡ early (entered d f) (entered_beyond d f) + o
  out_spot = omega (arith, begin_near)

  -- the entry of the first
  pub out_entry : spot (new d ok f o small r) (entry (new d ok f o small r) (way_out d ok f o small r)) ≡ early (entered_beyond d f) (entered d f) + (1 - o)
  out_entry = omega (arith, begin_far, (points_near d ok f o small r), r.segment, small)

  -- the second
  pub back_spot : spot (new d ok f o small r) (way_back d ok f o small r) ≡ early (entered_beyond d f) (entered d f) + o
  back_spot = omega (arith, begin_far)

  -- and its entry
  pub back_entry : spot (new d ok f o small r) (entry (new d ok f o small r) (way_back d ok f o small r)) ≡ early (entered d f) (entered_beyond d f) + (1 - o)
  back_entry =
      let q = points_partner d ok.polygon f.side in
      let z : spot (new d ok f o small r) (entry (new d ok f o small r) (way_back d ok f o small r)) ≡ offset (new d ok f o small r) f.side + (points_on (new d ok f o small r) (far_side d ok f o small r) - 1 - ((far_segment d ok f o small r) + o)) = ap (λ w. offset (new d ok f o small r) w + (points_on (new d ok f o small r) (far_side d ok f o small r) - 1 - ((far_segment d ok f o small r) + o))) (partner_back d ok f o small r) in
      omega (arith, z, begin_near, (points_far d ok f o small r), r.segment, small, q)

  -- the segment entered and the one glued to it are two
  pub entered_apart : entered d f ≢ entered_beyond d f
  entered_apart q = elim (cases_lt (far_side d ok f o small r) f.side) [
    | inl l ↦ omega (arith, q, offset_rises d (far_side d ok f o small r) f.side l, (far_in d ok f o small r))
    | inr l ↦
        let ne : f.side < (far_side d ok f o small r) = let z = (sides_apart d ok f o small r) in omega (arith, l, z) in
        omega (arith, q, offset_rises d f.side (far_side d ok f o small r) ne, r.segment)
  ]
