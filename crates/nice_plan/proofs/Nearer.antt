-- Behind some chord of a piece lies a piece that is one nearer to the gaps.
use Rattle.std.proofs.Common.{◌≡◌, ℕ, zero, suc, ◌+◌, ◌-◌, ◌<◌, ◌≤◌, Bool, true, false, List, refl, sym, ◌∙◌, ap, subst, arith, inl, inr, ◌≢◌}
use Rattle.std.proofs.lemmas.Bool.{false≢true, true≢false, lt-ltb, le-ltb, cases_lt, cases_eq, cases_order, cases_Bool}
use Rattle.obd_base.specs.Lists.{Mem}
use Rattle.page_surface.specs.Drawing.{Chord, beyond, differ}
use Rattle.drawing.specs.Pieces.{same_piece, separated_by}
use Rattle.drawing.specs.Round.{other_end}
use Rattle.drawing.proofs.SamePiece.{same_piece_sym, same_piece_refl}
use Rattle.drawing.proofs.fingers.Arranged.{Arranged}
use Rattle.finger_move.proofs.PushedNext.{next, other_twice}
use Rattle.finger_move.proofs.Walk.{next_same, between, between_up, ending, EndOf}
use Rattle.finger_move.proofs.Cycles.{same_trans}
use Rattle.nice_plan.proofs.Distance.{IsBorder, Marked, base, border_near, crossed_count, dist, dist_le, end_apart, nearest, separated_none, separated_same, step}

-- the last span of the piece of s that is no later than g
last_before : (cs : List Chord) (s n : ℕ) → (p : ℕ) × (same_piece cs s p ≡ true) × (s ≤ p) × (p ≤ s + n) × ((r : ℕ) → p < r → r ≤ s + n → same_piece cs s r ≡ false)
last_before cs s zero = (s, same_piece_refl cs s, omega arith, omega arith, λ r l h. absurd (let z : ⊥ = omega (arith, l, h) in z))
last_before cs s (suc n) = elim (cases_Bool (same_piece cs s (suc (s + n)))) [
  | inl q ↦ (suc (s + n), q, omega arith, omega arith, λ r l h. absurd (let z : ⊥ = omega (arith, l, h) in z))
  | inr q ↦ (let (p, a, b, c, d) = last_before cs s n in (
    p,
    a,
    b,
    omega (arith, c),
    λ r l h. elim (cases_eq r (suc (s + n))) [
      | inl e ↦ subst (λ w. same_piece cs s w ≡ false) (sym e) q
      | inr e ↦ d r l (omega (arith, h, e))
    ],
  ))
]

-- the first span of the piece of s that is no earlier than s - n
first_after : (cs : List Chord) (s n : ℕ) → (p : ℕ) × (same_piece cs s p ≡ true) × (s ≤ p + n) × (p ≤ s) × ((r : ℕ) → s ≤ r + n → r < p → same_piece cs s r ≡ false)
first_after cs s zero = (s, same_piece_refl cs s, omega arith, omega arith, λ r l h. absurd (let z : ⊥ = omega (arith, l, h) in z))
first_after cs s (suc n) = elim (cases_Bool (same_piece cs s (s - suc n))) [
  | inl q ↦ (s - suc n, q, omega arith, omega arith, λ r l h. absurd (let z : ⊥ = omega (arith, l, h) in z))
  | inr q ↦ (let (p, a, b, c, d) = first_after cs s n in (
    p,
    a,
    omega (arith, b),
    c,
    λ r l h. elim (cases_eq r (s - suc n)) [
      | inl e ↦ subst (λ w. same_piece cs s w ≡ false) (sym e) q
      | inr e ↦ d r (omega (arith, l, h, e)) h
    ],
  ))
]

differ_true : (a b : Bool) → (a ≡ b → ⊥) → differ a b ≡ true
differ_true true true n = absurd (n refl)
differ_true true false n = refl
differ_true false true n = refl
differ_true false false n = absurd (n refl)

-- behind some chord of the border lie one less chords between the piece and the gap
pub closer : (cs : List Chord) → Arranged cs → (s g : ℕ) → same_piece cs s g ≡ false → (p : ℕ) × IsBorder cs s p × (separated_by cs s g ≡ suc (separated_by cs (suc p) g))
closer cs ok s g n = elim (cases_order s g) [
  | inl e ↦ absurd (false≢true (sym n ∙ subst (λ w. same_piece cs s w ≡ true) e (same_piece_refl cs s)))
  | inr w ↦ elim w [ inl l ↦ up l | inr l ↦ down l ]
]
  where
    found : (p : ℕ) (c : Chord) → same_piece cs s p ≡ true → EndOf cs c p (other_end cs p) → (between p (other_end cs p) p ≡ between p (other_end cs p) g → ⊥) → (p : ℕ) × IsBorder cs s p × (separated_by cs s g ≡ suc (separated_by cs (suc p) g))
    found p c h e d = (
      p,
      record { chord = c; side = h; ending = e },
      elim (crossed_count cs ok c e.in_list p (suc p) g (end_apart cs c p (other_end cs p) e)) [
        | inl k ↦ separated_same cs s p g h ∙ k.0
        | inr k ↦ absurd (false≢true (sym k.1 ∙ differ_true (beyond c p) (beyond c g) (λ q. d (sym (e.test p) ∙ q ∙ e.test g))))
      ],
    )

    up : s < g → (p : ℕ) × IsBorder cs s p × (separated_by cs s g ≡ suc (separated_by cs (suc p) g))
    up l =
        let (p, a, b, c, d) = last_before cs s (g - s) in
        let pg : p ≢ g = λ q. false≢true (sym n ∙ subst (λ w. same_piece cs s w ≡ true) q a) in
        elim (ending cs ok p) [
          | inr w ↦ absurd (false≢true (sym (d (suc p) (omega arith) (omega (arith, c, pg, l)))
              ∙ same_trans cs s p (suc p) a (subst (λ z. same_piece cs p (suc z) ≡ true) w.1 (next_same cs ok p))))
          | inl w ↦ (let (e, k) = w in found p e a k (λ q.
              let u = between_up p (other_end cs p) g k.apart q (omega (arith, c, pg, l)) in
              false≢true (sym (d (next cs p) (omega (arith, u)) (omega (arith, u, l))) ∙ same_trans cs s p (next cs p) a (next_same cs ok p))))
        ]

    down : g < s → (p : ℕ) × IsBorder cs s p × (separated_by cs s g ≡ suc (separated_by cs (suc p) g))
    down l =
        let (r, a, b, c, d) = first_after cs s (s - g) in
        let rg : r ≢ g = λ q. false≢true (sym n ∙ subst (λ w. same_piece cs s w ≡ true) q a) in
        let v = r - 1 in
        let rv : suc v ≡ r = omega (arith, b, rg, l) in
        let far : same_piece cs s v ≡ false = d v (omega (arith, b, rg, l)) (omega (arith, b, rg, l)) in
        let q = other_end cs v in
        let back : other_end cs q ≡ v = other_twice cs ok v in
        let qr : same_piece cs q r ≡ true = subst (λ z. same_piece cs q z ≡ true) (ap suc back ∙ rv) (next_same cs ok q) in
        let sq : same_piece cs s q ≡ true = same_trans cs s r q a (same_piece_sym cs q r qr) in
        let qv : q ≢ v = λ h. false≢true (sym far ∙ subst (λ z. same_piece cs s z ≡ true) h sq) in
        elim (ending cs ok q) [
          | inr w ↦ absurd (qv (sym w.1 ∙ back))
          | inl w ↦ (let (e, k) = w in found q e sq k (λ h. apart q v r qv rv (omega (arith, b, rg, l)) (λ m m'. false≢true (sym (d q (omega (arith, m, b, l)) m') ∙ sq))
              (subst (λ z. between q z q ≡ between q z g) back h)))
        ]
      where
        apart : (q v r : ℕ) → q ≢ v → suc v ≡ r → g ≤ v → (g ≤ q → q < r → ⊥) → between q v q ≡ between q v g → ⊥
        apart q v r qv rv gv no_member h = elim (cases_lt q v) [
          | inl k ↦ elim (cases_lt q g) [
            | inl m ↦ false≢true (rw (le-ltb q q (omega arith), le-ltb v q (omega arith), lt-ltb q g m, le-ltb v g gv) at h)
            | inr m ↦ no_member m (omega (arith, k, rv))
          ]
          | inr k ↦ true≢false (rw (le-ltb q q (omega arith), lt-ltb v q (omega arith), le-ltb q g (omega arith), le-ltb v g gv) at h)
        ]

-- a door exists: a piece of distance e + 1 has a chord behind which lies a piece of distance e
pub door_exists : (cs : List Chord) → Arranged cs → (gs : List ℕ) (h : ℕ) → Mem h gs → (e s : ℕ) → dist cs gs s ≡ suc e
    → (p : ℕ) × IsBorder cs s p × (dist cs gs (suc p) ≡ e)
door_exists cs ok gs h m e s q =
    let (g, i, k) = nearest cs gs s h m in
    let apart : same_piece cs s g ≡ false = elim (cases_Bool (same_piece cs s g)) [
      | inl w ↦ absurd (let z : ⊥ = omega (arith, q, k, separated_none cs s g w) in z)
      | inr w ↦ w
    ] in
    let (p, b, n) = closer cs ok s g apart in
    (p, b, omega (arith, dist_le cs gs (suc p) g i, border_near cs ok gs h m s p b, q, k, n))

-- distance 0 is the base
pub dist_base : (cs : List Chord) → Arranged cs → (gs : List ℕ) (h : ℕ) → Mem h gs → (s : ℕ) → dist cs gs s ≡ 0 → (g : ℕ) × Mem g gs × (same_piece cs s g ≡ true)
dist_base cs ok gs h m s q =
    let (g, i, k) = nearest cs gs s h m in
    elim (cases_Bool (same_piece cs s g)) [
      | inl w ↦ (g, i, w)
      | inr w ↦ (let (p, b, n) = closer cs ok s g w in absurd (let z : ⊥ = omega (arith, q, k, n) in z))
    ]

-- so every span is marked by its distance
pub marked_by_distance : (cs : List Chord) → Arranged cs → (gs : List ℕ) (h : ℕ) → Mem h gs → (e s : ℕ) → dist cs gs s ≡ e → Marked cs gs e s
marked_by_distance cs ok gs h m zero s q = let (g, i, w) = dist_base cs ok gs h m s q in base g i w
marked_by_distance cs ok gs h m (suc e) s q =
    let (p, b, k) = door_exists cs ok gs h m e s q in
    step p b (marked_by_distance cs ok gs h m e (suc p) k)
