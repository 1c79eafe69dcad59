-- Rotated cycles, and what a finger makes of each span of a piece that it doesn't split.
use Rattle.std.proofs.Common.{◌≡◌, ℕ, suc, ◌+◌, Bool, true, false, cond, eqb, List, [], ◌∷◌, ◌++◌, length, refl, sym, ◌∙◌, ap, subst, arith, ◌⊎◌, inl, inr, ◌≢◌}
use Rattle.std.proofs.lemmas.Bool.{false≢true, true≢false, cases_eq, eq-eqb, ne_eqb}
use Rattle.obd_base.specs.Lists.{Mem, Once}
use Rattle.obd_base.proofs.lists.Members.{mem_append, mem_left, mem_right}
use Rattle.drawing.proofs.fingers.Shift.{shift, early, rooms, shift_new, shift_swap}
use Rattle.drawing.proofs.fingers.Finger.{shift_apart, new_apart}
use Rattle.finger_move.proofs.Cycles.{IsCycle, leads_append, leads_left, leads_right}
use Rattle.obd_base.proofs.lists.Parts.{once_append}

-- the first part of a list that repeats nothing
pub once_left : {A : Type 0} (xs ys : List A) → Once (xs ++ ys) → Once xs
once_left [] ys o = tt
once_left (x ∷ xs) ys o = (λ m. o.0 (mem_left x xs ys m), once_left xs ys o.1)

-- and the second
pub once_right : {A : Type 0} (xs ys : List A) → Once (xs ++ ys) → Once ys
once_right [] ys o = o
once_right (x ∷ xs) ys o = once_right xs ys o.1

-- which have no common member
pub once_apart : {A : Type 0} (xs ys : List A) → Once (xs ++ ys) → (z : A) → Mem z xs → Mem z ys → ⊥
once_apart [] ys o z m n = m
once_apart (x ∷ xs) ys o z (inl q) n = o.0 (mem_right x xs ys (subst (λ w. Mem w ys) q n))
once_apart (x ∷ xs) ys o z (inr m) n = once_apart xs ys o.1 z m n

-- a cycle may start at any member
pub rotate : (f : ℕ → ℕ) (xs ys : List ℕ) → IsCycle f (xs ++ ys) → IsCycle f (ys ++ xs)
rotate f [] ys c = subst (λ w. IsCycle f w) (sym (append_none ys)) c
  where
    append_none : (ys : List ℕ) → ys ++ [] ≡ ys
    append_none [] = refl
    append_none (y ∷ ys) = ap (λ w. y ∷ w) (append_none ys)
rotate f (x ∷ xs) [] c = subst (λ w. IsCycle f w) (append_none (x ∷ xs)) c
  where
    append_none : (ys : List ℕ) → ys ++ [] ≡ ys
    append_none [] = refl
    append_none (y ∷ ys) = ap (λ w. y ∷ w) (append_none ys)
rotate f (x ∷ xs) (y ∷ ys) c = record {
  leads = leads_append f (y ∷ ys) (x ∷ xs) y (leads_right f (x ∷ xs) (y ∷ ys) x c.leads) (leads_left f (x ∷ xs) (y ∷ ys) x c.leads);
  once = once_append (y ∷ ys) (x ∷ xs) (once_right (x ∷ xs) (y ∷ ys) c.once) (once_left (x ∷ xs) (y ∷ ys) c.once)
      (λ z m n. once_apart (x ∷ xs) (y ∷ ys) c.once z n m);
}

-- what becomes of a span: u has a first part before it, and after the span behind the chord comes the new middle span
abbrev pub spread : ℕ → ℕ → ℕ → ℕ → List ℕ
spread t u x s = cond (eqb s u) (early u t ∷ []) [] ++ (shift t u s ∷ cond (eqb s x) (suc (early t u) ∷ []) [])

-- all spans of a piece
abbrev pub spread_all : ℕ → ℕ → ℕ → List ℕ → List ℕ
spread_all t u x [] = []
spread_all t u x (s ∷ ss) = spread t u x s ++ spread_all t u x ss

-- span t is carried past its two new numbers
pub shift_own : (t u : ℕ) → shift t u t ≡ suc (suc (early t u))
shift_own t u = omega (arith, rooms t t)

-- and so is u
pub shift_other : (t u : ℕ) → shift t u u ≡ suc (suc (early u t))
shift_other t u = omega (arith, rooms u u)

-- the home of a new span
abbrev pub Home : ℕ → ℕ → ℕ → ℕ → ℕ → Type 0
Home t u x z s = (z ≡ shift t u s) ⊎ (((s ≡ u) × (z ≡ early u t)) ⊎ ((s ≡ x) × (z ≡ suc (early t u))))

-- a new span has one home
pub home_one : (t u x : ℕ) → t ≢ u → (z s r : ℕ) → Home t u x z s → Home t u x z r → s ≡ r
home_one t u x ne z s r h k =
    let n = new_apart t u ne in
    elim h [
      | inl a ↦ elim k [
        | inl b ↦ elim (cases_eq s r) [ inl q ↦ q | inr q ↦ absurd (shift_apart t u s r q (sym a ∙ b)) ]
        | inr k ↦ elim k [
          | inl b ↦ absurd ((shift_new u t s).0 (sym (shift_swap t u s) ∙ sym a ∙ b.1))
          | inr b ↦ absurd ((shift_new t u s).1 (sym a ∙ b.1))
        ]
      ]
      | inr h ↦ elim h [
        | inl a ↦ elim k [
          | inl b ↦ absurd ((shift_new u t r).0 (sym (shift_swap t u r) ∙ sym b ∙ a.1))
          | inr k ↦ elim k [
            | inl b ↦ a.0 ∙ sym b.0
            | inr b ↦ absurd (n.2 (sym b.1 ∙ a.1))
          ]
        ]
        | inr a ↦ elim k [
          | inl b ↦ absurd ((shift_new t u r).1 (sym b ∙ a.1))
          | inr k ↦ elim k [
            | inl b ↦ absurd (n.2 (sym a.1 ∙ b.1))
            | inr b ↦ a.0 ∙ sym b.0
          ]
        ]
      ]
    ]

-- the four shapes of `spread`
abbrev pub shape : Bool → Bool → ℕ → ℕ → ℕ → List ℕ
shape p q a b c = cond p (a ∷ []) [] ++ (b ∷ cond q (c ∷ []) [])

-- the cases of a span
pub spread_shape : (t u x s : ℕ) → ((p : Bool) × (p ≡ true → s ≡ u) × (p ≡ false → s ≢ u) × ((q : Bool) × (q ≡ true → s ≡ x) × (q ≡ false → s ≢ x) × (spread t u x s ≡ shape p q (early u t) (shift t u s) (suc (early t u)))))
spread_shape t u x s = elim (cases_eq s u) [
  | inl a ↦ elim (cases_eq s x) [
    | inl b ↦ (true, λ h. a, λ h. absurd (true≢false h), (true, λ h. b, λ h. absurd (true≢false h), rw (eq-eqb s u a, eq-eqb s x b) refl))
    | inr b ↦ (true, λ h. a, λ h. absurd (true≢false h), (false, λ h. absurd (false≢true h), λ h. b, rw (eq-eqb s u a, ne_eqb s x b) refl))
  ]
  | inr a ↦ elim (cases_eq s x) [
    | inl b ↦ (false, λ h. absurd (false≢true h), λ h. a, (true, λ h. b, λ h. absurd (true≢false h), rw (ne_eqb s u a, eq-eqb s x b) refl))
    | inr b ↦ (false, λ h. absurd (false≢true h), λ h. a, (false, λ h. absurd (false≢true h), λ h. b, rw (ne_eqb s u a, ne_eqb s x b) refl))
  ]
]

spread_home : (t u x s z : ℕ) → Mem z (spread t u x s) → Home t u x z s
spread_home t u x s z m =
    let (p, pt, pf, (q, qt, qf, e)) = spread_shape t u x s in
    go p q pt qt (subst (λ w. Mem z w) e m)
  where
    go : (p q : Bool) → (p ≡ true → s ≡ u) → (q ≡ true → s ≡ x) → Mem z (shape p q (early u t) (shift t u s) (suc (early t u))) → Home t u x z s
    go true true f g (inl a) = inr (inl (f refl, a))
    go true true f g (inr (inl a)) = inl a
    go true true f g (inr (inr (inl a))) = inr (inr (g refl, a))
    go true true f g (inr (inr (inr a))) = absurd a
    go true false f g (inl a) = inr (inl (f refl, a))
    go true false f g (inr (inl a)) = inl a
    go true false f g (inr (inr a)) = absurd a
    go false true f g (inl a) = inl a
    go false true f g (inr (inl a)) = inr (inr (g refl, a))
    go false true f g (inr (inr a)) = absurd a
    go false false f g (inl a) = inl a
    go false false f g (inr a) = absurd a

spread_once : (t u x s : ℕ) → t ≢ u → Once (spread t u x s)
spread_once t u x s ne =
    let (p, pt, pf, (q, qt, qf, e)) = spread_shape t u x s in
    subst (λ w. Once w) (sym e) (go p q)
  where
    a : early u t ≢ shift t u s
    a h = (shift_new u t s).0 (sym (shift_swap t u s) ∙ sym h)

    b : shift t u s ≢ suc (early t u)
    b = (shift_new t u s).1

    c : early u t ≢ suc (early t u)
    c h = (new_apart t u ne).2 (sym h)

    go : (p q : Bool) → Once (shape p q (early u t) (shift t u s) (suc (early t u)))
    go true true = (λ m. elim m [ inl h ↦ a h | inr m ↦ elim m [ inl h ↦ c h | inr m ↦ absurd m ] ], (λ m. elim m [ inl h ↦ b h | inr m ↦ absurd m ], (λ m. m, tt)))
    go true false = (λ m. elim m [ inl h ↦ a h | inr m ↦ absurd m ], (λ m. m, tt))
    go false true = (λ m. elim m [ inl h ↦ b h | inr m ↦ absurd m ], (λ m. m, tt))
    go false false = (λ m. m, tt)

-- each new span of a piece has a home
pub spread_all_home : (t u x z : ℕ) (ss : List ℕ) → Mem z (spread_all t u x ss) → (s : ℕ) × Mem s ss × Home t u x z s
spread_all_home t u x z [] m = absurd m
spread_all_home t u x z (s ∷ ss) m = elim (mem_append z (spread t u x s) (spread_all t u x ss) m) [
  | inl k ↦ (s, inl refl, spread_home t u x s z k)
  | inr k ↦ (let (r, i, h) = spread_all_home t u x z ss k in (r, inr i, h))
]

-- none stands twice
pub spread_all_once : (t u x : ℕ) → t ≢ u → (ss : List ℕ) → Once ss → Once (spread_all t u x ss)
spread_all_once t u x ne [] o = tt
spread_all_once t u x ne (s ∷ ss) o =
    once_append (spread t u x s) (spread_all t u x ss) (spread_once t u x s ne) (spread_all_once t u x ne ss o.1)
    (λ z m n. let (r, i, h) = spread_all_home t u x z ss n in
    o.0 (subst (λ w. Mem w ss) (sym (home_one t u x ne z s r (spread_home t u x s z m) h)) i))

-- one more span for u, and one more for the span behind the chord
abbrev pub extra : ℕ → ℕ → ℕ → ℕ
extra u x s = cond (eqb s u) 1 0 + cond (eqb s x) 1 0

-- how many there are
pub length_spread : (t u x s : ℕ) → length (spread t u x s) ≡ suc (extra u x s)
length_spread t u x s = go (eqb s u) (eqb s x)
  where
    go : (p q : Bool) → length (shape p q (early u t) (shift t u s) (suc (early t u))) ≡ suc (cond p 1 0 + cond q 1 0)
    go true true = refl
    go true false = refl
    go false true = refl
    go false false = refl
