-- Which distances don't grow by a finger. Behind a door none grows; else none of the pieces that are no farther than the split one.
use Rattle.std.proofs.Common.{◌≡◌, ℕ, zero, suc, ◌≤◌, Bool, true, false, List, [], ◌∷◌, map, refl, sym, ◌∙◌, ap, subst, arith, inl, inr, ◌≢◌}
use Rattle.std.proofs.lemmas.Bool.{false≢true, cases_eq, cases_Bool, eq-eqb, ne_eqb}
use Rattle.obd_base.specs.Lists.{Mem}
use Rattle.page_surface.specs.Drawing.{Chord}
use Rattle.drawing.specs.Pieces.{same_piece}
use Rattle.drawing.specs.Round.{other_end}
use Rattle.drawing.proofs.SamePiece.{same_piece_sym, same_piece_refl}
use Rattle.drawing.proofs.fingers.Shift.{shift, early, shift_new}
use Rattle.drawing.proofs.fingers.Arranged.{Arranged}
use Rattle.drawing.proofs.fingers.Finger.{pushed, shift_apart}
use Rattle.drawing.proofs.fingers.OneEffect.{IsOpen, effect_arranged}
use Rattle.finger_move.proofs.PushedNext.{near, far, other_at, entered, Table, table, other_kept, after_carried}
use Rattle.finger_move.proofs.Spread.{shift_own}
use Rattle.finger_move.proofs.PushedCycles.{entered_plain, entered_split}
use Rattle.finger_move.proofs.Walk.{next_same, ending}
use Rattle.finger_move.proofs.Cycles.{same_trans}
use Rattle.finger_move.proofs.Homes.{new_same}
use Rattle.finger_move.proofs.Kept.{in_parts, middle_behind, third_beyond}
use Rattle.finger_move.proofs.Touched.{two_sides, not_same}
use Rattle.nice_plan.proofs.Distance.{dist, dist_le, dist_same, separated_none, IsBorder, border_near}
use Rattle.nice_plan.proofs.Nearer.{dist_base, door_exists}

-- carried members
pub mem_shift : (t u g : ℕ) (gs : List ℕ) → Mem g gs → Mem (shift t u g) (map (shift t u) gs)
mem_shift t u g [] m = m
mem_shift t u g (h ∷ gs) (inl q) = inl (ap (shift t u) q)
mem_shift t u g (h ∷ gs) (inr m) = inr (mem_shift t u g gs m)

-- a number that isn't its own other end is an end of a chord
pub border_at : (cs : List Chord) → Arranged cs → (s p : ℕ) → same_piece cs s p ≡ true → other_end cs p ≢ p → IsBorder cs s p
border_at cs ok s p h n = elim (ending cs ok p) [
  | inl w ↦ (let (c, e) = w in record { chord = c; side = h; ending = e })
  | inr w ↦ absurd (n w.1)
]

module _ (t u : ℕ) (out : Bool) (c : Chord) (es : List Chord) (ne : t ≢ u) (ok : Arranged (c ∷ es)) (legal : IsOpen t out c es) (loop : same_piece (c ∷ es) t u ≡ false)
    (gs : List ℕ) (h : ℕ) (some : Mem h gs) where
  abbrev old : List Chord
  old = c ∷ es

  abbrev new : List Chord
  new = pushed t u out c es

  abbrev x : ℕ
  x = near out c

  abbrev y : ℕ
  y = far out c

  abbrev before : ℕ → ℕ
  before s = dist old gs s

  abbrev after : ℕ → ℕ
  after s = dist new (map (shift t u) gs) s

  -- the chords after the finger
  pub arranged : Arranged new
  arranged = effect_arranged t u out c es ne ok legal

  -- their table
  pub tab : Table t u out c es
  tab = table t u out c es arranged

  near_after : (s p : ℕ) → IsBorder new s p → after s ≤ suc (after (suc p))
  near_after s p b = border_near new arranged (map (shift t u) gs) (shift t u h) (mem_shift t u h gs some) s p b

  -- the two ends of the chord
  pub ends : (out : Bool) → (other_end old (far out c) ≡ near out c) × (other_end old (near out c) ≡ far out c)
  ends true = let o = other_at old ok c (inl refl) in (o.0, o.1)
  ends false = let o = other_at old ok c (inl refl) in (o.1, o.0)

  -- both spans inside the chord's ends lie in the split piece
  pub far_in : same_piece old y t ≡ true
  far_in = go out legal (next_same old ok (near out c)) (next_same old ok (far out c))
    where
      go : (out : Bool) → IsOpen t out c es → same_piece old (near out c) (suc (other_end old (near out c))) ≡ true → same_piece old (far out c) (suc (other_end old (far out c))) ≡ true → same_piece old (far out c) t ≡ true
      go true l n f = l
      go false l n f = same_trans old _ _ _ (subst (λ w. same_piece old c.to (suc w) ≡ true) (other_at old ok c (inl refl)).1 f) l

  -- the span after the near end lies in the split piece
  pub first_in : same_piece old (suc x) t ≡ true
  first_in = same_trans old _ _ _ (same_piece_sym old _ _ (subst (λ w. same_piece old y (suc w) ≡ true) (ends out).0 (next_same old ok y))) far_in

  -- the near end does not
  pub near_out : same_piece old x t ≡ false
  near_out = not_same old x t (two_sides out c es t ok legal)

  sides : (out : Bool) (p : ℕ) → p ≢ near out c → p ≢ far out c → (c.from ≢ p) × (c.to ≢ p)
  sides true p a b = (λ q. b (sym q), λ q. a (sym q))
  sides false p a b = (λ q. a (sym q), λ q. b (sym q))

  -- a chord that isn't pushed is still a border, and behind it comes what came behind it
  kept_border : (s p : ℕ) → IsBorder old s p → p ≢ x → p ≢ y → (z : ℕ) → same_piece new z (shift t u p) ≡ true
      → IsBorder new z (shift t u p) × (suc (shift t u p) ≡ entered t u (suc p))
  kept_border s p b px py z same =
      let o = sides out p px py in
      let e = other_kept t u out c es p o.0 o.1 in
      (border_at new arranged z (shift t u p) same (λ q. shift_apart t u _ _ (λ r. b.ending.apart (sym r)) (sym e ∙ q)), after_carried t u p ne)

  entered_u : entered t u u ≡ early u t
  entered_u = rw (ne_eqb u t (λ q. ne (sym q)), eq-eqb u u refl) refl

  -- a span behind, not t
  after_entered : (r : ℕ) → r ≢ t → after (entered t u r) ≡ after (shift t u r)
  after_entered r n = elim (cases_eq r u) [
    | inl q ↦ subst (λ w. after (entered t u w) ≡ after (shift t u w)) (sym q)
        (ap (λ w. after w) entered_u ∙ dist_same new (map (shift t u) gs) (early u t) (shift t u u) (third_beyond t u out c es ne ok legal loop))
    | inr m ↦ ap (λ w. after w) (entered_plain t u r n m)
  ]

  base_after : (s : ℕ) → before s ≡ 0 → same_piece old s t ≡ false → after (shift t u s) ≤ 0
  base_after s q n =
      let (g, i, w) = dist_base old ok gs h some s q in
      omega (
        arith,
        dist_le new (map (shift t u) gs) (shift t u s) (shift t u g) (mem_shift t u g gs i),
        separated_none new (shift t u s) (shift t u g) (new_same t u out c es ne ok legal s g w n),
      )

  not_far : (s p : ℕ) → same_piece old s p ≡ true → same_piece old s t ≡ false → p ≢ y
  not_far s p b n q = false≢true (sym n ∙ same_trans old s p t b (subst (λ w. same_piece old w t ≡ true) (sym q) far_in))

  -- pieces no farther than the split one, other than it
  pub no_farther : (e s : ℕ) → before s ≡ e → e ≤ before t → same_piece old s t ≡ false → after (shift t u s) ≤ e
  no_farther zero s q l n = base_after s q n
  no_farther (suc e) s q l n =
      let (p, b, k) = door_exists old ok gs h some e s q in
      let behind : same_piece old (suc p) t ≡ false = not_same old (suc p) t (λ w. let z = dist_same old gs (suc p) t w in absurd {A = ⊥} (omega (arith, z, k, l))) in
      let px : p ≢ x = λ w. false≢true (sym behind ∙ subst (λ v. same_piece old (suc v) t ≡ true) (sym w) first_in) in
      let kb = kept_border s p b px (not_far s p b.side n) (shift t u s) (new_same t u out c es ne ok legal s p b.side n) in
      let st : suc p ≢ t = λ w. false≢true (sym behind ∙ subst (λ v. same_piece old v t ≡ true) (sym w) (same_piece_refl old t)) in
      let ih = no_farther e (suc p) k (omega (arith, l)) behind in
      omega (arith, near_after (shift t u s) (shift t u p) kb.0, ap (λ v. after v) kb.1, after_entered (suc p) st, ih)

  -- the part of the split piece that has its door p (another chord) keeps the distance
  pub door_part : (p : ℕ) → same_piece old p t ≡ true → p ≢ y → other_end old p ≢ p → before t ≡ suc (before (suc p)) → after (shift t u p) ≤ before t
  door_part p w py ends_here d =
      let b = border_at old ok p p (same_piece_refl old p) ends_here in
      let px : p ≢ x = λ q. false≢true (sym near_out ∙ subst (λ v. same_piece old v t ≡ true) q w) in
      let kb = kept_border p p b px py (shift t u p) (same_piece_refl new (shift t u p)) in
      let behind : same_piece old (suc p) t ≡ false = not_same old (suc p) t (λ w. let z = dist_same old gs (suc p) t w in absurd {A = ⊥} (omega (arith, z, d))) in
      let st : suc p ≢ t = λ w. false≢true (sym behind ∙ subst (λ v. same_piece old v t ≡ true) (sym w) (same_piece_refl old t)) in
      omega (
        arith,
        near_after (shift t u p) (shift t u p) kb.0,
        ap (λ v. after v) kb.1,
        after_entered (suc p) st,
        d,
        no_farther (before (suc p)) (suc p) refl (omega (arith, d)) behind,
      )

  -- a finger of a door: the split piece is one farther than the piece behind
  module _ (door : before t ≡ suc (before x)) where
    near_no_farther : after (shift t u x) ≤ before x
    near_no_farther = no_farther (before x) x refl (omega (arith, door)) near_out

    middle_no_farther : after (suc (early t u)) ≤ before x
    middle_no_farther = omega (arith, near_no_farther, dist_same new (map (shift t u) gs) _ _ (middle_behind t u out c es ne ok legal loop))

    -- both parts keep the distance
    pub front_no_farther : after (early t u) ≤ before t
    front_no_farther = omega (
      arith,
      door,
      middle_no_farther,
      near_after (early t u) (early t u) (border_at new arranged (early t u) (early t u) (same_piece_refl new (early t u)) (λ q. (shift_new t u x).0 (sym tab.at_early ∙ q))),
    )

    -- nor the second part
    pub back_no_farther : after (shift t u t) ≤ before t
    back_no_farther =
        let same : same_piece new (shift t u t) (shift t u y) ≡ true
        = same_piece_sym new _ _ (subst (λ w. same_piece new (shift t u y) w ≡ true) (ap suc tab.at_far ∙ sym (shift_own t u)) (next_same new arranged (shift t u y))) in
        let behind : same_piece new (suc (early t u)) (suc (shift t u y)) ≡ true
        = subst (λ w. same_piece new (suc (early t u)) (suc w) ≡ true) tab.at_late (next_same new arranged (suc (early t u))) in
        omega (
          arith,
          door,
          middle_no_farther,
          dist_same new (map (shift t u) gs) _ _ behind,
          near_after (shift t u t) (shift t u y) (border_at new arranged (shift t u t) (shift t u y) same (λ q. (shift_new t u y).1 (sym q ∙ tab.at_far))),
        )

    parts_no_farther : (s : ℕ) → same_piece old s t ≡ true → after (shift t u s) ≤ before s
    parts_no_farther s w =
        let d = dist_same old gs s t w in
        elim (in_parts t u out c es ne ok legal loop s w) [
          | inl q ↦ omega (arith, d, front_no_farther, dist_same new (map (shift t u) gs) _ _ q)
          | inr q ↦ omega (arith, d, back_no_farther, dist_same new (map (shift t u) gs) _ _ q)
        ]

    -- no distance grows
    pub door_no_farther : (e s : ℕ) → before s ≡ e → after (shift t u s) ≤ e
    door_no_farther zero s q = elim (cases_Bool (same_piece old s t)) [
      | inl w ↦ omega (arith, parts_no_farther s w, q)
      | inr n ↦ base_after s q n
    ]
    door_no_farther (suc e) s q = elim (cases_Bool (same_piece old s t)) [
      | inl w ↦ omega (arith, parts_no_farther s w, q)
      | inr n ↦ (let (p, b, k) = door_exists old ok gs h some e s q in
          let same = new_same t u out c es ne ok legal s p b.side n in
          elim (cases_eq p x) [
            | inl px ↦
                let behind : same_piece new (early t u) (suc (shift t u x)) ≡ true
                = subst (λ w. same_piece new (early t u) (suc w) ≡ true) tab.at_early (next_same new arranged (early t u)) in
                let far : before (suc x) ≡ before t = dist_same old gs (suc x) t first_in in
                omega (
                  arith,
                  k,
                  far,
                  ap (λ v. before (suc v)) px,
                  front_no_farther,
                  dist_same new (map (shift t u) gs) _ _ behind,
                  near_after (shift t u s) (shift t u x) (border_at new arranged (shift t u s) (shift t u x) (subst (λ v. same_piece new (shift t u s) (shift t u v) ≡ true) px same)
                      (λ r. (shift_new t u x).0 (sym r ∙ tab.at_near))),
                )
            | inr px ↦
                let kb = kept_border s p b px (not_far s p b.side n) (shift t u s) same in
                let ih = door_no_farther e (suc p) k in
                let step = near_after (shift t u s) (shift t u p) kb.0 in
                elim (cases_eq (suc p) t) [
                  | inl st ↦ omega (arith, step, ap (λ v. after v) (kb.1 ∙ ap (entered t u) st ∙ entered_split t u), front_no_farther, ap (λ v. before v) st, k)
                  | inr st ↦ omega (arith, step, ap (λ v. after v) kb.1, after_entered (suc p) st, ih)
                ]
          ])
    ]
