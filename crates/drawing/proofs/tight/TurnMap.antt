-- The numbers of kept exits, of their entries and of the ends of sides, without the turn and with it.
use Rattle.std.proofs.Common.{◌≡◌, ℕ, ◌+◌, ◌-◌, ◌*◌, ◌<◌, ◌≤◌, eqb, leb, List, refl, sym, ◌∙◌, ap, subst, arith, inl, inr, ◌≢◌}
use Rattle.std.proofs.lemmas.Bool.{cases_eq, eq-eqb, ne_eqb, le-leb}
use Rattle.obd_base.proofs.lists.Below.{bit}
use Rattle.obd_base.specs.Lists.{Mem}
use Rattle.obd_base.specs.declared.points.Exit.{Exit}
use Rattle.page_surface.specs.Drawing.{Drawing, entry, end_of, spot, points_on, offset, all_exits, IsEmbedded}
use Rattle.page_surface.specs.Polygon.{partner, arc_count}
use Rattle.drawing.specs.Turns.{IsTurn, lowered_place, lowered, turn_place, far_place}
use Rattle.drawing.proofs.Ends.{place_in, same_count}
use Rattle.drawing.proofs.Lists.{mem_row}
use Rattle.drawing.proofs.tight.TurnCounts.{new, row, row_kept, k_and_e, far_count, places_meet, points_new, kept_near, kept_far}
use Rattle.drawing.proofs.tight.TwoMore.{lowered_raised, lowered_far, raised, raised_rises, raised_place, raised_spot}

module _ (d : Drawing) (ok : IsEmbedded d) (i : ℕ) (us : List Exit) (u v : Exit) (vs : List Exit) (turn : IsTurn d i us u v vs) where
  -- the side that the turn leaves through
  abbrev pub k' : ℕ
  k' = u.side

  -- its partner
  abbrev pub e' : ℕ
  e' = partner d.polygon u.side

  -- the lesser place of the turn on the side
  abbrev pub s' : ℕ
  s' = turn_place d u v

  -- and on the partner
  abbrev pub t' : ℕ
  t' = far_place d u v

  -- the drawing without the turn
  abbrev pub thin : Drawing
  thin = new d ok i us u v vs turn

  -- how many points each side has without the turn and with it
  pub points : (l : ℕ) → points_on d l ≡ points_on thin l + (2 * bit (eqb k' l) + 2 * bit (eqb e' l))
  points l = points_new d ok i us u v vs turn l

  -- the partner is another side
  moves : e' ≢ k'
  moves = k_and_e d ok i us u v vs turn

  -- two points fewer on the side
  points_near : points_on d k' ≡ points_on thin k' + 2
  points_near =
      let a : bit (eqb k' k') ≡ 1 = rw (eq-eqb k' k' refl) refl in
      let b : bit (eqb e' k') ≡ 0 = rw (ne_eqb e' k' moves) refl in
      omega (arith, points k', a, b)

  -- and on the partner
  points_far : points_on d e' ≡ points_on thin e' + 2
  points_far =
      let a : bit (eqb k' e') ≡ 0 = rw (ne_eqb k' e' (λ q. moves (sym q))) refl in
      let b : bit (eqb e' e') ≡ 1 = rw (eq-eqb e' e' refl) refl in
      omega (arith, points e', a, b)

  -- as many on each other side
  points_else : (l : ℕ) → l ≢ k' → l ≢ e' → points_on d l ≡ points_on thin l
  points_else l a b =
      let x : bit (eqb k' l) ≡ 0 = rw (ne_eqb k' l (λ q. a (sym q))) refl in
      let y : bit (eqb e' l) ≡ 0 = rw (ne_eqb e' l (λ q. b (sym q))) refl in
      omega (arith, points l, x, y)

  -- the places of the turn are the same points on both sides
  meet : s' + t' ≡ points_on thin k'
  meet = omega (arith, places_meet d ok i us u v vs turn, points_near)

  -- the two sides have equally many points without the turn
  pub thin_count : points_on thin e' ≡ points_on thin k'
  thin_count = omega (arith, points_near, points_far, far_count d ok i us u v vs turn)

  -- the place of the turn lies on the side
  pub near_in : s' ≤ points_on thin k'
  near_in = omega (arith, meet)

  -- and on the partner
  pub far_in : t' ≤ points_on thin e'
  far_in = omega (arith, meet, thin_count)

  -- the number with the turn of a number without it
  abbrev pub up : ℕ → ℕ
  up = raised d thin k' e' s' t' points near_in far_in

  -- which keeps the order
  pub up_rises : (x y : ℕ) → x < y → up x < up y
  up_rises = raised_rises d thin k' e' s' t' points near_in far_in

  -- the place with the turn of a place without it
  abbrev pub up_place : ℕ → ℕ → ℕ
  up_place = raised_place d thin k' e' s' t' points near_in far_in

  -- and its number
  pub up_spot : (l j : ℕ) → j ≤ points_on thin l + 1 → up (offset thin l + j) ≡ offset d l + up_place l j
  up_spot = raised_spot d thin k' e' s' t' points near_in far_in

  -- on the side
  pub up_near : (j : ℕ) → up_place k' j ≡ j + 2 * bit (leb s' j)
  up_near j = rw (eq-eqb k' k' refl, ne_eqb e' k' moves) (omega arith)

  -- on the partner
  pub up_far : (j : ℕ) → up_place e' j ≡ j + 2 * bit (leb t' j)
  up_far j = rw (eq-eqb e' e' refl, ne_eqb k' e' (λ q. moves (sym q))) (omega arith)

  -- on each other side
  up_else : (l j : ℕ) → l ≢ k' → l ≢ e' → up_place l j ≡ j
  up_else l j a b = rw (ne_eqb k' l (λ q. a (sym q)), ne_eqb e' l (λ q. b (sym q))) (omega arith)

  -- the ends of sides
  pub up_end : (l : ℕ) → up (spot thin (end_of thin l)) ≡ spot d (end_of d l)
  up_end l = up_spot l (points_on thin l) (omega arith) ∙ ap (λ j. offset d l + j) place
    where
      place : up_place l (points_on thin l) ≡ points_on d l
      place = elim (cases_eq l k') [
        | inl q ↦ subst (λ l. up_place l (points_on thin l) ≡ points_on d l) (sym q)
            (up_near (points_on thin k') ∙ (let z : bit (leb s' (points_on thin k')) ≡ 1 = rw (le-leb s' (points_on thin k') near_in) refl in omega (arith, z, points_near)))
        | inr n ↦ elim (cases_eq l e') [
          | inl q ↦ subst (λ l. up_place l (points_on thin l) ≡ points_on d l) (sym q)
              (up_far (points_on thin e') ∙ (let z : bit (leb t' (points_on thin e')) ≡ 1 = rw (le-leb t' (points_on thin e') far_in) refl in omega (arith, z, points_far)))
          | inr m ↦ up_else l (points_on thin l) n m ∙ sym (points_else l n m)
        ]
      ]

  -- what a kept exit's places are
  pub record Kept (x : Exit) : Type 0 where
    pub inside : (lowered d u v x).place < points_on thin x.side
    pub here : up (spot thin (lowered d u v x)) ≡ spot d x
    pub there : up (spot thin (entry thin (lowered d u v x))) ≡ spot d (entry d x)

  -- they are so where its places are
  kept_from : (x : Exit) → (lowered d u v x).place < points_on thin x.side → up_place x.side (lowered d u v x).place ≡ x.place
      → points_on thin (partner d.polygon x.side) ≡ points_on thin x.side
      → up_place (partner d.polygon x.side) (points_on thin x.side - 1 - (lowered d u v x).place) ≡ points_on d x.side - 1 - x.place → Kept x
  kept_from x l p c q = record {
    inside = l;
    here = up_spot x.side (lowered d u v x).place (omega arith) ∙ ap (λ j. offset d x.side + j) p;
    there = up_spot (partner d.polygon x.side) (points_on thin x.side - 1 - (lowered d u v x).place) (omega arith) ∙ ap (λ j. offset d (partner d.polygon x.side) + j) q;
  }

  -- the place of an exit on the side
  low_near : (x : Exit) → x.side ≡ k' → (lowered d u v x).place ≡ lowered_place s' x.place
  low_near x q = rw (eq-eqb x.side k' q) refl

  -- on the partner
  low_far : (x : Exit) → x.side ≡ e' → (lowered d u v x).place ≡ lowered_place t' x.place
  low_far x q = rw (ne_eqb x.side k' (λ z. moves (sym q ∙ z)), eq-eqb x.side e' q) refl

  -- and elsewhere
  low_else : (x : Exit) → x.side ≢ k' → x.side ≢ e' → (lowered d u v x).place ≡ x.place
  low_else x a b = rw (ne_eqb x.side k' a, ne_eqb x.side e' b) refl

  -- each exit but the two of the turn is kept
  pub kept : (j : ℕ) (x : Exit) → j < arc_count d.polygon → Mem x (row d ok i us u v vs turn j) → Kept x
  kept j x lj m =
      let xin : Mem x (all_exits d) = mem_row d.strands j x (row_kept d ok i us u v vs turn j x m) in
      let px = place_in d ok x xin in
      let two : partner d.polygon e' ≡ k' = ok.polygon.pairs.twice k' in
      elim (cases_eq x.side k') [
        | inl q ↦
            (let a = kept_near d ok i us u v vs turn j x lj m q in
            let p = low_near x q in
            let c : points_on thin x.side ≡ points_on thin k' = ap (points_on thin) q in
            let o : points_on d x.side ≡ points_on d k' = ap (points_on d) q in
            let f = lowered_far s' t' (points_on thin k') x.place meet (omega (arith, px, o, points_near)) a.0 a.1 in
            kept_from x (omega (arith, p, c, f.0))
            (subst (λ l. up_place l (lowered d u v x).place ≡ x.place) (sym q)
            (up_near (lowered d u v x).place ∙ subst (λ y. y + 2 * bit (leb s' y) ≡ x.place) (sym p) (lowered_raised s' x.place a.0 a.1)))
            (subst (λ l. points_on thin (partner d.polygon l) ≡ points_on thin l) (sym q) thin_count)
            (subst (λ l. up_place (partner d.polygon l) (points_on thin l - 1 - (lowered d u v x).place) ≡ points_on d l - 1 - x.place) (sym q)
            (up_far (points_on thin k' - 1 - (lowered d u v x).place)
            ∙ (subst (λ y. (points_on thin k' - 1 - y) + 2 * bit (leb t' (points_on thin k' - 1 - y)) ≡ points_on thin k' + 2 - 1 - x.place) (sym p) f.1 ∙ omega (arith, points_near)))))
        | inr n ↦ elim (cases_eq x.side e') [
          | inl q ↦
              (let a = kept_far d ok i us u v vs turn j x lj m q in
              let p = low_far x q in
              let c : points_on thin x.side ≡ points_on thin e' = ap (points_on thin) q in
              let o : points_on d x.side ≡ points_on d e' = ap (points_on d) q in
              let f = lowered_far t' s' (points_on thin e') x.place (omega (arith, meet, thin_count)) (omega (arith, px, o, points_far)) a.0 a.1 in
              kept_from x (omega (arith, p, c, f.0))
              (subst (λ l. up_place l (lowered d u v x).place ≡ x.place) (sym q)
              (up_far (lowered d u v x).place ∙ subst (λ y. y + 2 * bit (leb t' y) ≡ x.place) (sym p) (lowered_raised t' x.place a.0 a.1)))
              (subst (λ l. points_on thin (partner d.polygon l) ≡ points_on thin l) (sym q) (ap (points_on thin) two ∙ sym thin_count))
              (subst (λ l. up_place (partner d.polygon l) (points_on thin l - 1 - (lowered d u v x).place) ≡ points_on d l - 1 - x.place) (sym q)
              (subst (λ l. up_place l (points_on thin e' - 1 - (lowered d u v x).place) ≡ points_on d e' - 1 - x.place) (sym two)
              (up_near (points_on thin e' - 1 - (lowered d u v x).place)
              ∙ (subst (λ y. (points_on thin e' - 1 - y) + 2 * bit (leb s' (points_on thin e' - 1 - y)) ≡ points_on thin e' + 2 - 1 - x.place) (sym p) f.1 ∙ omega (arith, points_far))))))
          | inr z ↦
              (let p = low_else x n z in
              let a : partner d.polygon x.side ≢ k' = λ w. z (sym (ok.polygon.pairs.twice x.side) ∙ ap (partner d.polygon) w) in
              let b : partner d.polygon x.side ≢ e' = λ w. n (sym (ok.polygon.pairs.twice x.side) ∙ (ap (partner d.polygon) w ∙ two)) in
              let c = points_else x.side n z in
              let f = points_else (partner d.polygon x.side) a b in
              let g = same_count d ok x.side in
              kept_from x (omega (arith, p, c, px)) (up_else x.side (lowered d u v x).place n z ∙ p) (omega (arith, c, f, g))
              (up_else (partner d.polygon x.side) (points_on thin x.side - 1 - (lowered d u v x).place) a b ∙ omega (arith, p, c)))
        ]
      ]
