-- The other end of a chord, and the next span, after a finger.
use Rattle.std.proofs.Common.{◌≡◌, ℕ, suc, Bool, true, false, cond, eqb, List, [], ◌∷◌, map, refl, sym, ◌∙◌, ap, subst, arith, ◌⊎◌, inl, inr, ◌≢◌}
use Rattle.std.proofs.lemmas.Bool.{cases_eq, eq-eqb, ne_eqb}
use Rattle.page_surface.specs.Drawing.{Chord}
use Rattle.drawing.specs.Round.{other_end}
use Rattle.drawing.proofs.fingers.Shift.{shift, early, rooms, shift_new, shift_swap}
use Rattle.drawing.proofs.fingers.Arranged.{Arranged}
use Rattle.drawing.proofs.fingers.Finger.{carry, onto, turn, back, pushed, shift_apart}
use Rattle.obd_base.specs.Lists.{Mem}

-- the chord at each of its ends
pub other_at : (cs : List Chord) → Arranged cs → (c : Chord) → Mem c cs → (other_end cs c.from ≡ c.to) × (other_end cs c.to ≡ c.from)
other_at [] ok c i = absurd i
other_at (x ∷ cs) ok c i = elim i [
  | inl q ↦ subst (λ (w : Chord). (other_end (x ∷ cs) w.from ≡ w.to) × (other_end (x ∷ cs) w.to ≡ w.from)) (sym q) first
  | inr k ↦ let a = (ok.1 c k).apart in let r = other_at cs ok.2 c k in (rw (ne_eqb _ _ a.0, ne_eqb _ _ a.2) r.0, rw (ne_eqb _ _ a.1, ne_eqb _ _ a.3) r.1)
]
  where
    first : (other_end (x ∷ cs) x.from ≡ x.to) × (other_end (x ∷ cs) x.to ≡ x.from)
    first = (rw (eq-eqb x.from x.from refl) refl, rw (ne_eqb x.from x.to ok.0, eq-eqb x.to x.to refl) refl)

-- what stands at a number: the end of a chord, or nothing
pub other_cases : (cs : List Chord) (x : ℕ)
    → ((c : Chord) × Mem c cs × (((c.from ≡ x) × (other_end cs x ≡ c.to)) ⊎ ((c.to ≡ x) × (other_end cs x ≡ c.from))))
    ⊎ (((c : Chord) → Mem c cs → (c.from ≢ x) × (c.to ≢ x)) × (other_end cs x ≡ x))
other_cases [] x = inr (λ c i. absurd i, refl)
other_cases (e ∷ cs) x = elim (cases_eq e.from x) [
  | inl q ↦ inl (e, (inl refl), inl (q, rw (eq-eqb _ _ q) refl))
  | inr n ↦ elim (cases_eq e.to x) [
    | inl q ↦ inl (e, (inl refl), inr (q, rw (ne_eqb _ _ n, eq-eqb _ _ q) refl))
    | inr m ↦ rest n m (other_cases cs x)
  ]
]
  where
    rest : (e.from ≢ x) → (e.to ≢ x)
        → ((c : Chord) × Mem c cs × (((c.from ≡ x) × (other_end cs x ≡ c.to)) ⊎ ((c.to ≡ x) × (other_end cs x ≡ c.from))))
        ⊎ (((c : Chord) → Mem c cs → (c.from ≢ x) × (c.to ≢ x)) × (other_end cs x ≡ x))
        → ((c : Chord) × Mem c (e ∷ cs) × (((c.from ≡ x) × (other_end (e ∷ cs) x ≡ c.to)) ⊎ ((c.to ≡ x) × (other_end (e ∷ cs) x ≡ c.from))))
        ⊎ (((c : Chord) → Mem c (e ∷ cs) → (c.from ≢ x) × (c.to ≢ x)) × (other_end (e ∷ cs) x ≡ x))
    rest n m (inl (c, i, inl w)) = inl (c, inr i, inl (w.0, rw (ne_eqb _ _ n, ne_eqb _ _ m) w.1))
    rest n m (inl (c, i, inr w)) = inl (c, inr i, inr (w.0, rw (ne_eqb _ _ n, ne_eqb _ _ m) w.1))
    rest n m (inr w) = inr (
      λ c i. elim i [ inl q ↦ subst (λ (v : Chord). (v.from ≢ x) × (v.to ≢ x)) (sym q) (n, m) | inr k ↦ w.0 c k ],
      rw (ne_eqb _ _ n, ne_eqb _ _ m) w.1,
    )

-- the other end of the other end
pub other_twice : (cs : List Chord) → Arranged cs → (x : ℕ) → other_end cs (other_end cs x) ≡ x
other_twice cs ok x = elim (other_cases cs x) [
  | inl w ↦ (let (c, i, v) = w in elim v [
    | inl q ↦ ap (other_end cs) q.1 ∙ (other_at cs ok c i).1 ∙ q.0
    | inr q ↦ ap (other_end cs) q.1 ∙ (other_at cs ok c i).0 ∙ q.0
  ])
  | inr w ↦ ap (other_end cs) w.1 ∙ w.1
]

-- the next span round a piece
abbrev pub next : List Chord → ℕ → ℕ
next cs s = suc (other_end cs s)

-- the end of c behind which the finger's lesser new point lies, and its other end
abbrev pub near : Bool → Chord → ℕ
near out c = cond out c.to c.from

-- and its other end
abbrev pub far : Bool → Chord → ℕ
far out c = cond out c.from c.to

-- where a piece that went to span s goes now
abbrev pub entered : ℕ → ℕ → ℕ → ℕ
entered t u s = cond (eqb s t) (early t u) (cond (eqb s u) (early u t) (shift t u s))

-- carried numbers are equal where the old ones are
shift_eqb : (t u x y : ℕ) → eqb (shift t u x) (shift t u y) ≡ eqb x y
shift_eqb t u x y = elim (cases_eq x y) [
  | inl q ↦ eq-eqb _ _ (ap (shift t u) q) ∙ sym (eq-eqb x y q)
  | inr n ↦ ne_eqb _ _ (shift_apart t u x y n) ∙ sym (ne_eqb x y n)
]

-- among carried chords the other end is carried
other_carried : (t u : ℕ) (es : List Chord) (x : ℕ) → other_end (map (carry t u) es) (shift t u x) ≡ shift t u (other_end es x)
other_carried t u [] x = refl
other_carried t u (e ∷ es) x = rw (shift_eqb t u e.from x, shift_eqb t u e.to x) (go (other_carried t u es x) (eqb e.from x) (eqb e.to x))
  where
    go : other_end (map (carry t u) es) (shift t u x) ≡ shift t u (other_end es x) → (p q : Bool) → cond p (shift t u e.to) (cond q (shift t u e.from) (other_end (map (carry t u) es) (shift t u x))) ≡ shift t u (cond p e.to (cond q e.from (other_end es x)))
    go r true q = refl
    go r false true = refl
    go r false false = r

-- away from the pushed chord
pub other_kept : (t u : ℕ) (out : Bool) (c : Chord) (es : List Chord) (x : ℕ) → c.from ≢ x → c.to ≢ x
    → other_end (pushed t u out c es) (shift t u x) ≡ shift t u (other_end (c ∷ es) x)
other_kept t u out c es x n m =
    rw (shift_eqb t u c.from x, ne_eqb c.from x n, shift_eqb t u c.to x, ne_eqb c.to x m, one out, two out, three out, four out) (other_carried t u es x)
  where
    f : (shift t u x ≢ early t u) × (shift t u x ≢ suc (early t u))
    f = shift_new t u x

    g : (shift t u x ≢ early u t) × (shift t u x ≢ suc (early u t))
    g = rw (shift_swap t u x) (shift_new u t x)

    one : (out : Bool) → eqb (cond out (suc (early t u)) (early t u)) (shift t u x) ≡ false
    one true = ne_eqb _ _ (λ q. f.1 (sym q))
    one false = ne_eqb _ _ (λ q. f.0 (sym q))

    two : (out : Bool) → eqb (cond out (early u t) (suc (early u t))) (shift t u x) ≡ false
    two true = ne_eqb _ _ (λ q. g.0 (sym q))
    two false = ne_eqb _ _ (λ q. g.1 (sym q))

    three : (out : Bool) → eqb (cond out (suc (early u t)) (early u t)) (shift t u x) ≡ false
    three true = ne_eqb _ _ (λ q. g.1 (sym q))
    three false = ne_eqb _ _ (λ q. g.0 (sym q))

    four : (out : Bool) → eqb (cond out (early t u) (suc (early t u))) (shift t u x) ≡ false
    four true = ne_eqb _ _ (λ q. f.0 (sym q))
    four false = ne_eqb _ _ (λ q. f.1 (sym q))

-- the new numbers and the two ends of the pushed chord
pub record Table (t u : ℕ) (out : Bool) (c : Chord) (es : List Chord) : Type 0 where
  pub at_near : other_end (pushed t u out c es) (shift t u (near out c)) ≡ early t u
  pub at_early : other_end (pushed t u out c es) (early t u) ≡ shift t u (near out c)
  pub at_far : other_end (pushed t u out c es) (shift t u (far out c)) ≡ suc (early t u)
  pub at_late : other_end (pushed t u out c es) (suc (early t u)) ≡ shift t u (far out c)
  pub at_tip : other_end (pushed t u out c es) (suc (early u t)) ≡ early u t
  pub at_beyond : other_end (pushed t u out c es) (early u t) ≡ suc (early u t)

-- they are there
pub table : (t u : ℕ) (out : Bool) (c : Chord) (es : List Chord) → Arranged (pushed t u out c es) → Table t u out c es
table t u true c es ok =
    let cs = pushed t u true c es in
    let o = other_at cs ok (onto t u true c) (inl refl) in
    let m = other_at cs ok (turn t u true) (inr (inl refl)) in
    let b = other_at cs ok (back t u true c) (inr (inr (inl refl))) in
    record { at_near = b.1; at_early = b.0; at_far = o.0; at_late = o.1; at_tip = m.1; at_beyond = m.0 }
table t u false c es ok =
    let cs = pushed t u false c es in
    let o = other_at cs ok (onto t u false c) (inl refl) in
    let m = other_at cs ok (turn t u false) (inr (inl refl)) in
    let b = other_at cs ok (back t u false c) (inr (inr (inl refl))) in
    record { at_near = o.0; at_early = o.1; at_far = b.1; at_late = b.0; at_tip = m.0; at_beyond = m.1 }

-- just after a carried point comes the first part of the span that came after it
pub after_carried : (t u x : ℕ) → t ≢ u → suc (shift t u x) ≡ entered t u (suc x)
after_carried t u x ne = elim (cases_eq (suc x) t) [
  | inl q ↦ rw (eq-eqb _ _ q) (omega (arith, rooms x t, rooms x u, rooms t u, q))
  | inr n ↦ elim (cases_eq (suc x) u) [
    | inl q ↦ rw (ne_eqb _ _ n, eq-eqb _ _ q) (omega (arith, rooms x t, rooms x u, rooms u t, q))
    | inr m ↦ rw (ne_eqb _ _ n, ne_eqb _ _ m) (omega (arith, rooms x t, rooms x u, rooms (suc x) t, rooms (suc x) u))
  ]
]

-- the next span after a carried span of which the chord is not the pushed one
pub next_kept : (t u : ℕ) (out : Bool) (c : Chord) (es : List Chord) (s : ℕ) → t ≢ u → c.from ≢ s → c.to ≢ s
    → next (pushed t u out c es) (shift t u s) ≡ entered t u (next (c ∷ es) s)
next_kept t u out c es s ne n m = ap suc (other_kept t u out c es s n m) ∙ after_carried t u (other_end (c ∷ es) s) ne
