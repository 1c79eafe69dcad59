-- Where points are taken out of a drawing, and those of a turn too: which numbers are gone, and how many places stay.
use Rattle.std.proofs.Common.{◌≡◌, ℕ, suc, ◌+◌, ◌-◌, ◌<◌, ◌≤◌, Bool, true, false, cond, eqb, not, List, refl, sym, ◌∙◌, ap, subst, arith, ◌⊎◌, inl, inr, ◌≢◌}
use Rattle.std.proofs.lemmas.Bool.{cases_eq, eq-eqb, ne_eqb, or_right}
use Rattle.std.proofs.Math.Bool.{or-false}
use Rattle.obd_base.specs.Lists.{below}
use Rattle.obd_base.specs.declared.points.Exit.{Exit}
use Rattle.obd_base.proofs.lists.Below.{bit, count_suc, mem_below}
use Rattle.obd_base.proofs.lists.Sums.{sum_same}
use Rattle.page_surface.specs.Drawing.{Drawing, IsEmbedded, entry, offset, points_on, spot}
use Rattle.page_surface.specs.Polygon.{partner}
use Rattle.drawing.specs.Thinned.{IsAlike, places_kept, thinned, thinned_exit, turn_gone}
use Rattle.drawing.specs.Turns.{IsTurn, far_place, lowered_place, turn_place}
use Rattle.drawing.proofs.Spots.{spot_apart}
use Rattle.drawing.proofs.Ends.{place_in, same_count, side_in}
use Rattle.drawing.proofs.tight.KeptPlaces.{kept_mirror, lowered_count, points_thinned}
use Rattle.drawing.proofs.tight.TurnCounts.{far_count, k_and_e, k_in, places, places_meet, u_place, v_in}

module _ (d : Drawing) (ok : IsEmbedded d) (gone : ℕ → Bool) (alike : IsAlike d gone) (i : ℕ) (us : List Exit) (u v : Exit) (vs : List Exit) (turn : IsTurn d i us u v vs) where
  -- the side that the turn leaves through
  abbrev k : ℕ
  k = u.side

  -- its partner
  abbrev e : ℕ
  e = partner d.polygon u.side

  -- the lesser place of the turn on the side
  abbrev s : ℕ
  s = turn_place d u v

  -- and on the partner
  abbrev t : ℕ
  t = far_place d u v

  -- what is gone afterwards
  abbrev after : ℕ → Bool
  after = turn_gone d u v gone

  -- the numbers of the two points of the turn under both their names
  abbrev Numbers : ℕ → ℕ → ℕ → ℕ → Type 0
  Numbers a b x y = (spot d u ≡ offset d k + a) × (spot d (entry d v) ≡ offset d k + b) × (spot d v ≡ offset d e + x) × (spot d (entry d u) ≡ offset d e + y)

  -- are those of two neighbours on each of the two sides
  numbers : Numbers (suc s) s (suc t) t ⊎ Numbers s (suc s) t (suc t)
  numbers =
      let g = places_meet d ok i us u v vs turn in
      let m : points_on d v.side ≡ points_on d k = ap (points_on d) turn.turns.returns ∙ far_count d ok i us u v vs turn in
      let there : offset d v.side ≡ offset d e = ap (offset d) turn.turns.returns in
      let here : offset d (partner d.polygon v.side) ≡ offset d k = ap (offset d) (ap (partner d.polygon) turn.turns.returns ∙ ok.polygon.pairs.twice k) in
      elim (places d ok i us u v vs turn) [
        | inl w ↦ inl (omega (arith, w), omega (arith, w, g, m, here), omega (arith, w, there), omega (arith, w, g))
        | inr w ↦ inr (omega (arith, w), omega (arith, w, g, m, here), omega (arith, w, there), omega (arith, w, g))
      ]

  -- the way out is gone afterwards,
  pub gone_out : (x : ℕ) → spot d u ≡ x → after x ≡ true
  gone_out x q = or_right (gone x) _ (rw (eq-eqb x (spot d u) (sym q)) refl)

  -- under its other name too,
  gone_in : (x : ℕ) → spot d (entry d u) ≡ x → after x ≡ true
  gone_in x q = or_right (gone x) _ (or_right (eqb x (spot d u)) _ (rw (eq-eqb x (spot d (entry d u)) (sym q)) refl))

  -- and so is the way back,
  pub gone_back : (x : ℕ) → spot d v ≡ x → after x ≡ true
  gone_back x q = or_right (gone x) _ (or_right (eqb x (spot d u)) _ (or_right (eqb x (spot d (entry d u))) _ (rw (eq-eqb x (spot d v) (sym q)) refl)))

  -- under both names
  gone_through : (x : ℕ) → spot d (entry d v) ≡ x → after x ≡ true
  gone_through x q = or_right (gone x) _ (or_right (eqb x (spot d u)) _ (or_right (eqb x (spot d (entry d u))) _ (or_right (eqb x (spot d v)) _ (eq-eqb x (spot d (entry d v)) (sym q)))))

  -- so the two places of the side are gone
  pub near_gone : (after (offset d k + s) ≡ true) × (after (offset d k + suc s) ≡ true)
  near_gone = elim numbers [ inl w ↦ (gone_through _ w.1, gone_out _ w.0) | inr w ↦ (gone_out _ w.0, gone_through _ w.1) ]

  -- and the two of its partner
  pub far_gone : (after (offset d e + t) ≡ true) × (after (offset d e + suc t) ≡ true)
  far_gone = elim numbers [ inl w ↦ (gone_in _ w.3, gone_back _ w.2) | inr w ↦ (gone_back _ w.2, gone_in _ w.3) ]

  -- a place that isn't one of the turn's
  pub record IsElse (l j : ℕ) : Type 0 where
    pub near : l ≡ k → (j ≢ s) × (j ≢ suc s)
    pub far : l ≡ e → (j ≢ t) × (j ≢ suc t)

  -- is gone afterwards where it was gone before
  pub gone_else : (l j : ℕ) → j ≤ points_on d l + 1 → IsElse l j → after (offset d l + j) ≡ gone (offset d l + j)
  gone_else l j h other =
      let x = offset d l + j in
      let g = places_meet d ok i us u v vs turn in
      let far_m = far_count d ok i us u v vs turn in
      let near : (a : ℕ) → a ≤ points_on d k → (a ≡ s) ⊎ (a ≡ suc s) → x ≢ offset d k + a = λ a l w q. near_apart a l w q in
      let far : (a : ℕ) → a ≤ points_on d e → (a ≡ t) ⊎ (a ≡ suc t) → x ≢ offset d e + a = λ a l w q. far_apart a l w q in
      let four : (x ≢ spot d u) × (x ≢ spot d (entry d u)) × (x ≢ spot d v) × (x ≢ spot d (entry d v)) = elim numbers [
        | inl w ↦ (
          (λ q. near (suc s) (omega (arith, g)) (inr refl) (q ∙ w.0)),
          (λ q. far t (omega (arith, g, far_m)) (inl refl) (q ∙ w.3)),
          (λ q. far (suc t) (omega (arith, g, far_m)) (inr refl) (q ∙ w.2)),
          (λ q. near s (omega (arith, g)) (inl refl) (q ∙ w.1)),
        )
        | inr w ↦ (
          (λ q. near s (omega (arith, g)) (inl refl) (q ∙ w.0)),
          (λ q. far (suc t) (omega (arith, g, far_m)) (inr refl) (q ∙ w.3)),
          (λ q. far t (omega (arith, g, far_m)) (inl refl) (q ∙ w.2)),
          (λ q. near (suc s) (omega (arith, g)) (inr refl) (q ∙ w.1)),
        )
      ] in
      rw (ne_eqb x (spot d u) four.0, ne_eqb x (spot d (entry d u)) four.1, ne_eqb x (spot d v) four.2, ne_eqb x (spot d (entry d v)) four.3) (or-false (gone x))
    where
      near_apart : (a : ℕ) → a ≤ points_on d k → (a ≡ s) ⊎ (a ≡ suc s) → offset d l + j ≢ offset d k + a
      near_apart a la w q =
          let r = spot_apart d l j k a h (omega arith) q in
          let n = other.near r.0 in
          elim w [ inl z ↦ n.0 (r.1 ∙ z) | inr z ↦ n.1 (r.1 ∙ z) ]

      far_apart : (a : ℕ) → a ≤ points_on d e → (a ≡ t) ⊎ (a ≡ suc t) → offset d l + j ≢ offset d e + a
      far_apart a la w q =
          let r = spot_apart d l j e a h (omega arith) q in
          let n = other.far r.0 in
          elim w [ inl z ↦ n.0 (r.1 ∙ z) | inr z ↦ n.1 (r.1 ∙ z) ]

  -- a place of the turn
  abbrev IsTurnPlace : ℕ → ℕ → Type 0
  IsTurnPlace l j = ((l ≡ k) × ((j ≡ s) ⊎ (j ≡ suc s))) ⊎ ((l ≡ e) × ((j ≡ t) ⊎ (j ≡ suc t)))

  -- each place is one or isn't
  which : (l j : ℕ) → IsTurnPlace l j ⊎ IsElse l j
  which l j = elim (cases_eq l k) [
    | inl q ↦ elim (cases_eq j s) [
      | inl z ↦ inl (inl (q, inl z))
      | inr n ↦ elim (cases_eq j (suc s)) [
        | inl z ↦ inl (inl (q, inr z))
        | inr m ↦ inr (record { near = λ r. (n, m); far = λ r. absurd (k_and_e d ok i us u v vs turn (sym r ∙ q)) })
      ]
    ]
    | inr n ↦ elim (cases_eq l e) [
      | inl q ↦ elim (cases_eq j t) [
        | inl z ↦ inl (inr (q, inl z))
        | inr a ↦ elim (cases_eq j (suc t)) [
          | inl z ↦ inl (inr (q, inr z))
          | inr b ↦ inr (record { near = λ r. absurd (n r); far = λ r. (a, b) })
        ]
      ]
      | inr m ↦ inr (record { near = λ r. absurd (n r); far = λ r. absurd (m r) })
    ]
  ]

  -- and not both
  not_both : (l j : ℕ) → IsTurnPlace l j → IsElse l j → ⊥
  not_both l j (inl (q, inl z)) other = (other.near q).0 z
  not_both l j (inl (q, inr z)) other = (other.near q).1 z
  not_both l j (inr (q, inl z)) other = (other.far q).0 z
  not_both l j (inr (q, inr z)) other = (other.far q).1 z

  -- a place of the turn is gone afterwards
  gone_there : (l j : ℕ) → IsTurnPlace l j → after (offset d l + j) ≡ true
  gone_there l j w = elim w [
    | inl r ↦ subst (λ x. after (offset d x + j) ≡ true) (sym r.0)
        (elim r.1 [ inl z ↦ subst (λ y. after (offset d k + y) ≡ true) (sym z) near_gone.0 | inr z ↦ subst (λ y. after (offset d k + y) ≡ true) (sym z) near_gone.1 ])
    | inr r ↦ subst (λ x. after (offset d x + j) ≡ true) (sym r.0)
        (elim r.1 [ inl z ↦ subst (λ y. after (offset d e + y) ≡ true) (sym z) far_gone.0 | inr z ↦ subst (λ y. after (offset d e + y) ≡ true) (sym z) far_gone.1 ])
  ]

  -- its other name is one too
  mirrored : (l j : ℕ) → IsTurnPlace l j → IsTurnPlace (partner d.polygon l) (points_on d l - 1 - j)
  mirrored l j (inl (q, w)) =
      let m : points_on d l ≡ points_on d k = ap (points_on d) q in
      let g = places_meet d ok i us u v vs turn in
      inr (ap (partner d.polygon) q, elim w [ inl z ↦ inr (omega (arith, z, m, g)) | inr z ↦ inl (omega (arith, z, m, g)) ])
  mirrored l j (inr (q, w)) =
      let m : points_on d l ≡ points_on d k = ap (points_on d) q ∙ far_count d ok i us u v vs turn in
      let g = places_meet d ok i us u v vs turn in
      inl (ap (partner d.polygon) q ∙ ok.polygon.pairs.twice k, elim w [ inl z ↦ inr (omega (arith, z, m, g)) | inr z ↦ inl (omega (arith, z, m, g)) ])

  -- and where its other name is one, so is the place
  mirrored_back : (l j : ℕ) → j < points_on d l → IsTurnPlace (partner d.polygon l) (points_on d l - 1 - j) → IsTurnPlace l j
  mirrored_back l j lj w =
      let place : points_on d (partner d.polygon l) - 1 - (points_on d l - 1 - j) ≡ j = omega (arith, lj, same_count d ok l) in
      subst (λ y. IsTurnPlace l y) place
      (subst (λ x. IsTurnPlace x (points_on d (partner d.polygon l) - 1 - (points_on d l - 1 - j))) (ok.polygon.pairs.twice l) (mirrored (partner d.polygon l) (points_on d l - 1 - j) w))

  -- afterwards too each point is gone under both its names or under neither
  pub still_alike : IsAlike d after
  still_alike l j ll lj = elim (which l j) [
    | inl w ↦ gone_there l j w ∙ sym (gone_there (partner d.polygon l) (points_on d l - 1 - j) (mirrored l j w))
    | inr o ↦ elim (which (partner d.polygon l) (points_on d l - 1 - j)) [
      | inl w ↦ absurd (not_both l j (mirrored_back l j lj w) o)
      | inr p ↦ gone_else l j (omega arith) o
          ∙ (alike l j ll lj ∙ sym (gone_else (partner d.polygon l) (points_on d l - 1 - j) (omega (arith, same_count d ok l)) p))
    ]
  ]

  module _ (out_stays : gone (spot d u) ≡ false) (back_stays : gone (spot d v) ≡ false) where
    -- the way out stays under both names until the turn is taken out
    in_stays : gone (spot d (entry d u)) ≡ false
    in_stays = sym (alike k u.place (k_in d ok i us u v vs turn) (u_place d ok i us u v vs turn)) ∙ out_stays

    -- and so does the way back
    through_stays : gone (spot d (entry d v)) ≡ false
    through_stays =
        let inside = v_in d ok i us u v vs turn in
        sym (alike v.side v.place (side_in d ok v inside) (place_in d ok v inside)) ∙ back_stays

    -- so the two places of the side do
    pub near_stays : (gone (offset d k + s) ≡ false) × (gone (offset d k + suc s) ≡ false)
    near_stays = elim numbers [
      | inl w ↦ (ap gone (sym w.1) ∙ through_stays, ap gone (sym w.0) ∙ out_stays)
      | inr w ↦ (ap gone (sym w.0) ∙ out_stays, ap gone (sym w.1) ∙ through_stays)
    ]

    -- and the two of its partner
    pub far_stays : (gone (offset d e + t) ≡ false) × (gone (offset d e + suc t) ≡ false)
    far_stays = elim numbers [
      | inl w ↦ (ap gone (sym w.3) ∙ in_stays, ap gone (sym w.2) ∙ back_stays)
      | inr w ↦ (ap gone (sym w.2) ∙ back_stays, ap gone (sym w.3) ∙ in_stays)
    ]

    -- the lesser place of the turn on the side, where what is gone is taken out
    abbrev near_kept : ℕ
    near_kept = places_kept d gone k s

    -- and on the partner
    abbrev far_kept : ℕ
    far_kept = places_kept d gone e t

    -- the next place of the side
    near_next : places_kept d gone k (suc s) ≡ suc near_kept
    near_next = let z : bit (not (gone (offset d k + s))) ≡ 1 = ap (λ b. bit (not b)) near_stays.0 in omega (arith, z, count_suc (λ j. not (gone (offset d k + j))) s)

    -- and the one after it
    near_past : places_kept d gone k (suc (suc s)) ≡ suc (suc near_kept)
    near_past = let z : bit (not (gone (offset d k + suc s))) ≡ 1 = ap (λ b. bit (not b)) near_stays.1 in omega (arith, z, near_next, count_suc (λ j. not (gone (offset d k + j))) (suc s))

    -- the next place of the partner
    far_next : places_kept d gone e (suc t) ≡ suc far_kept
    far_next = let z : bit (not (gone (offset d e + t))) ≡ 1 = ap (λ b. bit (not b)) far_stays.0 in omega (arith, z, count_suc (λ j. not (gone (offset d e + j))) t)

    -- the turn's places meet where what is gone is taken out
    pub kept_meet : near_kept + far_kept + 2 ≡ points_on (thinned d gone) k
    kept_meet =
        let g = places_meet d ok i us u v vs turn in
        let mirror = kept_mirror d ok gone alike k t (k_in d ok i us u v vs turn) (omega (arith, g)) in
        let past : points_on d k - t ≡ suc (suc s) = omega (arith, g) in
        let kept : places_kept d gone k (points_on d k - t) ≡ places_kept d gone k (suc (suc s)) = ap (places_kept d gone k) past in
        omega (arith, mirror, kept, near_past, points_thinned d ok gone alike k (k_in d ok i us u v vs turn))

    -- and so do its exits
    pub kept_exits : (((thinned_exit d gone u).place ≡ suc near_kept) × ((thinned_exit d gone v).place ≡ suc far_kept))
        ⊎ (((thinned_exit d gone u).place ≡ near_kept) × ((thinned_exit d gone v).place ≡ far_kept))
    kept_exits =
        let side : places_kept d gone v.side v.place ≡ places_kept d gone e v.place = ap (λ l. places_kept d gone l v.place) turn.turns.returns in
        elim (places d ok i us u v vs turn) [
          | inl w ↦ inl (ap (places_kept d gone k) w.0 ∙ near_next, side ∙ (ap (places_kept d gone e) w.1 ∙ far_next))
          | inr w ↦ inr (ap (places_kept d gone k) w.0, side ∙ ap (places_kept d gone e) w.1)
        ]

    -- how many places of a side stay when the turn is taken out too
    pub kept_lowered : (l j : ℕ) → j < points_on d l → IsElse l j → gone (offset d l + j) ≡ false
        → cond (eqb l k) (lowered_place near_kept (places_kept d gone l j)) (cond (eqb l e) (lowered_place far_kept (places_kept d gone l j)) (places_kept d gone l j)) ≡ places_kept d after l j
    kept_lowered l j h other stays = elim (cases_eq l k) [
      | inl q ↦ rw (eq-eqb l k q) (subst (λ l. lowered_place near_kept (places_kept d gone l j) ≡ places_kept d after l j) (sym q)
          (near (subst (λ l. j < points_on d l) q h) (other.near q) (ap (λ l. gone (offset d l + j)) (sym q) ∙ stays)))
      | inr n ↦ elim (cases_eq l e) [
        | inl q ↦ rw (ne_eqb l k n, eq-eqb l e q) (subst (λ l. lowered_place far_kept (places_kept d gone l j) ≡ places_kept d after l j) (sym q)
            (far (subst (λ l. j < points_on d l) q h) (other.far q) (ap (λ l. gone (offset d l + j)) (sym q) ∙ stays)))
        | inr m ↦ rw (ne_eqb l k n, ne_eqb l e m)
            (sum_same (λ j. bit (not (gone (offset d l + j)))) (λ j. bit (not (after (offset d l + j)))) (below j) (λ r w.
            let lr = mem_below j r w in
            ap (λ b. bit (not b)) (sym (gone_else l r (omega (arith, lr)) (record { near = λ z. absurd (n z); far = λ z. absurd (m z) })))))
      ]
    ]
      where
        near : j < points_on d k → (j ≢ s) × (j ≢ suc s) → gone (offset d k + j) ≡ false → lowered_place near_kept (places_kept d gone k j) ≡ places_kept d after k j
        near lj apart st = lowered_count (λ r. not (gone (offset d k + r))) (λ r. not (after (offset d k + r))) s (points_on d k)
            (ap not near_stays.0) (ap not near_stays.1) (ap not near_gone.0) (ap not near_gone.1)
            (λ r lr a b. ap not (gone_else k r (omega arith) (record { near = λ z. (a, b); far = λ z. absurd (k_and_e d ok i us u v vs turn (sym z)) })))
            j lj apart.0 apart.1 (ap not st)

        far : j < points_on d e → (j ≢ t) × (j ≢ suc t) → gone (offset d e + j) ≡ false → lowered_place far_kept (places_kept d gone e j) ≡ places_kept d after e j
        far lj apart st = lowered_count (λ r. not (gone (offset d e + r))) (λ r. not (after (offset d e + r))) t (points_on d e)
            (ap not far_stays.0) (ap not far_stays.1) (ap not far_gone.0) (ap not far_gone.1)
            (λ r lr a b. ap not (gone_else e r (omega arith) (record { near = λ z. absurd (k_and_e d ok i us u v vs turn z); far = λ z. (a, b) })))
            j lj apart.0 apart.1 (ap not st)
