-- No piece comes nearer by a finger. So behind a door, and for pieces no farther than the split one, distances stay the same.
use Rattle.std.proofs.Common.{◌≡◌, ℕ, zero, suc, ◌≤◌, Bool, true, false, List, [], ◌∷◌, map, refl, sym, ◌∙◌, ap, subst, arith, ◌⊎◌, inl, inr, ◌≢◌}
use Rattle.std.proofs.lemmas.Bool.{cases_eq, eq-eqb, ne_eqb}
use Rattle.obd_base.specs.Lists.{Mem}
use Rattle.page_surface.specs.Drawing.{Chord}
use Rattle.drawing.specs.Pieces.{same_piece}
use Rattle.drawing.proofs.SamePiece.{same_piece_sym, same_piece_refl}
use Rattle.drawing.proofs.fingers.Shift.{shift, early, shift_new, shift_swap}
use Rattle.drawing.proofs.fingers.Arranged.{Arranged}
use Rattle.drawing.proofs.fingers.Finger.{pushed, new_apart}
use Rattle.drawing.proofs.fingers.OneEffect.{IsOpen}
use Rattle.finger_move.proofs.PushedNext.{next, near, far, entered, after_carried}
use Rattle.finger_move.proofs.PushedCycles.{entered_plain, entered_split}
use Rattle.finger_move.proofs.Spread.{shift_own, shift_other}
use Rattle.finger_move.proofs.Walk.{next_same, ending}
use Rattle.finger_move.proofs.Cycles.{same_trans}
use Rattle.finger_move.proofs.Homes.{old_same, old_early}
use Rattle.finger_move.proofs.Kept.{middle_behind, third_beyond, tip_alone}
use Rattle.finger_move.proofs.Touched.{new_cases}
use Rattle.nice_plan.proofs.Distance.{dist, dist_same, dist_le, separated_none, border_near}
use Rattle.nice_plan.proofs.Nearer.{dist_base, door_exists}
use Rattle.nice_plan.proofs.Farther.{mem_shift, ends, far_in, first_in, arranged, no_farther, door_no_farther}

-- stepping over one number changes distances by at most one
pub step_near : (cs : List Chord) → Arranged cs → (gs : List ℕ) (h : ℕ) → Mem h gs → (p : ℕ) → dist cs gs p ≤ suc (dist cs gs (suc p))
step_near cs ok gs h m p = elim (ending cs ok p) [
  | inl w ↦ (let (c, e) = w in border_near cs ok gs h m p p (record { chord = c; side = same_piece_refl cs p; ending = e }))
  | inr w ↦ (let s = dist_same cs gs p (next cs p) (next_same cs ok p) in omega (arith, s, ap (λ v. dist cs gs (suc v)) w.1))
]

mem_unshift : (t u g : ℕ) (gs : List ℕ) → Mem g (map (shift t u) gs) → (k : ℕ) × Mem k gs × (g ≡ shift t u k)
mem_unshift t u g [] m = absurd m
mem_unshift t u g (h ∷ gs) (inl q) = (h, inl refl, q)
mem_unshift t u g (h ∷ gs) (inr m) = let (k, i, q) = mem_unshift t u g gs m in (k, inr i, q)

module _ (t u : ℕ) (out : Bool) (c : Chord) (es : List Chord) (ne : t ≢ u) (ok : Arranged (c ∷ es)) (legal : IsOpen t out c es) (loop : same_piece (c ∷ es) t u ≡ false)
    (gs : List ℕ) (h : ℕ) (some : Mem h gs) where
  abbrev old : List Chord
  old = c ∷ es

  abbrev new : List Chord
  new = pushed t u out c es

  abbrev x : ℕ
  x = near out c

  abbrev y : ℕ
  y = far out c

  abbrev before : ℕ → ℕ
  before s = dist old gs s

  abbrev after : ℕ → ℕ
  after s = dist new (map (shift t u) gs) s

  -- where a new span comes from; the tip counts to the piece beyond
  abbrev From : ℕ → ℕ → Type 0
  From z s = (z ≡ shift t u s) ⊎ (((z ≡ early t u) × (s ≡ t)) ⊎ (((z ≡ suc (early t u)) × (s ≡ x)) ⊎ (((z ≡ early u t) × (s ≡ u)) ⊎ ((z ≡ suc (early u t)) × (s ≡ u)))))

  some_from : (z : ℕ) → (s : ℕ) × From z s
  some_from z = elim (new_cases t u ne z) [
    | inl k ↦ (let (s, q) = k in (s, inl q))
    | inr k ↦ elim k [
      | inl q ↦ (t, inr (inl (q, refl)))
      | inr k ↦ elim k [
        | inl q ↦ (x, inr (inr (inl (q, refl))))
        | inr k ↦ elim k [ inl q ↦ (u, inr (inr (inr (inl (q, refl))))) | inr q ↦ (u, inr (inr (inr (inr (q, refl))))) ]
      ]
    ]
  ]

  -- a new span stands with its old one, or is the first part of t, or the tip
  stands : (z s : ℕ) → From z s → (same_piece new z (shift t u s) ≡ true) ⊎ (((z ≡ early t u) × (s ≡ t)) ⊎ ((z ≡ suc (early u t)) × (s ≡ u)))
  stands z s (inl q) = inl (subst (λ w. same_piece new w (shift t u s) ≡ true) (sym q) (same_piece_refl new (shift t u s)))
  stands z s (inr (inl q)) = inr (inl q)
  stands z s (inr (inr (inl q))) = inl (subst (λ w. same_piece new w (shift t u s) ≡ true) (sym q.0)
      (subst (λ w. same_piece new (suc (early t u)) (shift t u w) ≡ true) (sym q.1) (same_piece_sym new _ _ (middle_behind t u out c es ne ok legal loop))))
  stands z s (inr (inr (inr (inl q)))) = inl (subst (λ w. same_piece new w (shift t u s) ≡ true) (sym q.0)
      (subst (λ w. same_piece new (early u t) (shift t u w) ≡ true) (sym q.1) (third_beyond t u out c es ne ok legal loop)))
  stands z s (inr (inr (inr (inr q)))) = inr (inr q)

  tip_lone : (z w : ℕ) → z ≡ suc (early u t) → same_piece new z w ≡ true → w ≡ z
  tip_lone z w q k = tip_alone t u out c es ne ok legal loop w (subst (λ v. same_piece new v w ≡ true) q k) ∙ sym q

  not_tip : (s : ℕ) → (shift t u s ≡ suc (early u t)) → ⊥
  not_tip s q = (shift_new u t s).1 (sym (shift_swap t u s) ∙ q)

  -- new spans of one piece come from one piece
  pub from_same : (z s w r : ℕ) → From z s → From w r → same_piece new z w ≡ true → same_piece old s r ≡ true
  from_same z s w r f g k = go (stands z s f) (stands w r g)
    where
      go : (same_piece new z (shift t u s) ≡ true) ⊎ (((z ≡ early t u) × (s ≡ t)) ⊎ ((z ≡ suc (early u t)) × (s ≡ u)))
          → (same_piece new w (shift t u r) ≡ true) ⊎ (((w ≡ early t u) × (r ≡ t)) ⊎ ((w ≡ suc (early u t)) × (r ≡ u))) → same_piece old s r ≡ true
      go (inl a) (inl b) = old_same t u out c es s r (same_trans new _ _ _ (same_piece_sym new _ _ a) (same_trans new _ _ _ k b))
      go (inl a) (inr (inl b)) = subst (λ v. same_piece old s v ≡ true) (sym b.1) (same_piece_sym old _ _ (old_early t u out c es s
          (same_trans new _ _ _ (subst (λ v. same_piece new v z ≡ true) b.0 (same_piece_sym new _ _ k)) a)))
      go (inl a) (inr (inr b)) = absurd (not_tip s (tip_lone w (shift t u s) b.0 (same_trans new _ _ _ (same_piece_sym new _ _ k) a) ∙ b.0))
      go (inr (inl a)) (inl b) = subst (λ v. same_piece old v r ≡ true) (sym a.1) (old_early t u out c es r
          (same_trans new _ _ _ (subst (λ v. same_piece new v w ≡ true) a.0 k) b))
      go (inr (inl a)) (inr (inl b)) = subst (λ v. same_piece old v r ≡ true) (sym a.1) (subst (λ v. same_piece old t v ≡ true) (sym b.1) (same_piece_refl old t))
      go (inr (inl a)) (inr (inr b)) = absurd ((new_apart t u ne).1 (sym a.0 ∙ tip_lone w z b.0 (same_piece_sym new _ _ k) ∙ b.0))
      go (inr (inr a)) (inl b) = absurd (not_tip r (tip_lone z (shift t u r) a.0 (same_trans new _ _ _ k b) ∙ a.0))
      go (inr (inr a)) (inr (inl b)) = absurd ((new_apart t u ne).1 (sym b.0 ∙ tip_lone z w a.0 k ∙ a.0))
      go (inr (inr a)) (inr (inr b)) = subst (λ v. same_piece old v r ≡ true) (sym a.1) (subst (λ v. same_piece old u v ≡ true) (sym b.1) (same_piece_refl old u))

  from_entered : (r : ℕ) → From (entered t u r) r
  from_entered r = elim (cases_eq r t) [
    | inl q ↦ inr (inl (ap (entered t u) q ∙ entered_split t u, q))
    | inr n ↦ elim (cases_eq r u) [
      | inl q ↦ inr (inr (inr (inl (rw (ne_eqb r t n, eq-eqb r u q) refl, q))))
      | inr m ↦ inl (entered_plain t u r n m)
    ]
  ]

  -- one step in the new drawing is at most one step in the old one
  step_from : (p r : ℕ) → From p r → (s : ℕ) × From (suc p) s × (before r ≤ suc (before s))
  step_from p r (inl q) = (suc r, subst (λ w. From w (suc r)) (sym (ap suc q ∙ after_carried t u r ne)) (from_entered (suc r)), step_near old ok gs h some r)
  step_from p r (inr (inl q)) = (
    x,
    inr (inr (inl (ap suc q.0, refl))),
    let a = step_near old ok gs h some y in
        let b = dist_same old gs y t (far_in t u out c es ne ok legal loop gs h some) in
        let e = dist_same old gs x (suc y) (subst (λ w. same_piece old x (suc w) ≡ true) (ends t u out c es ne ok legal loop gs h some out).1 (next_same old ok x)) in
        omega (arith, a, b, e, ap before q.1),
  )
  step_from p r (inr (inr (inl q))) = (
    t,
    inl (ap suc q.0 ∙ sym (shift_own t u)),
    let a = step_near old ok gs h some x in
        let b = dist_same old gs (suc x) t (first_in t u out c es ne ok legal loop gs h some) in
        omega (arith, a, b, ap before q.1),
  )
  step_from p r (inr (inr (inr (inl q)))) = (u, inr (inr (inr (inr (ap suc q.0, refl)))), omega (arith, ap before q.1))
  step_from p r (inr (inr (inr (inr q)))) = (u, inl (ap suc q.0 ∙ sym (shift_other t u)), omega (arith, ap before q.1))

  -- no new span is nearer than the one that it comes from
  pub no_nearer : (e z s : ℕ) → From z s → after z ≡ e → before s ≤ e
  no_nearer zero z s f q =
      let (g, i, w) = dist_base new (arranged t u out c es ne ok legal loop gs h some) (map (shift t u) gs) (shift t u h) (mem_shift t u h gs some) z q in
      let (k, j, r) = mem_unshift t u g gs i in
      let same = from_same z s g k f (inl r) w in
      omega (arith, dist_le old gs s k j, separated_none old s k same)
  no_nearer (suc e) z s f q =
      let (p, b, k) = door_exists new (arranged t u out c es ne ok legal loop gs h some) (map (shift t u) gs) (shift t u h) (mem_shift t u h gs some) e z q in
      let (r, g) = some_from p in
      let (v, j, l) = step_from p r g in
      omega (arith, l, no_nearer e (suc p) v j k, dist_same old gs s r (from_same z s p r f g b.side))

  -- pieces no farther than the split one, other than it, keep their distance
  pub same_distance : (s : ℕ) → before s ≤ before t → same_piece old s t ≡ false → after (shift t u s) ≡ before s
  same_distance s l n = omega (arith, no_nearer (after (shift t u s)) (shift t u s) s (inl refl) refl, no_farther t u out c es ne ok legal loop gs h some (before s) s refl l n)

  -- where a door is pushed, all do
  pub door_distance : before t ≡ suc (before x) → (s : ℕ) → after (shift t u s) ≡ before s
  door_distance d s = omega (
    arith,
    no_nearer (after (shift t u s)) (shift t u s) s (inl refl) refl,
    door_no_farther t u out c es ne ok legal loop gs h some d (before s) s refl,
  )
