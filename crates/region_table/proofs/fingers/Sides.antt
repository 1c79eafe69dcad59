-- Two spans on one side of a chord, t on the other: a new chord from t to a number on t's side doesn't tell them apart.
use Rattle.std.proofs.Common.{◌≡◌, ℕ, ◌<◌, ◌≤◌, Bool, true, false, ltb, not, List, [], ◌∷◌, refl, sym, ◌∙◌, arith, ◌⊎◌, inl, inr, ◌≢◌}
use Rattle.std.specs.List.{list_any}
use Rattle.std.proofs.lemmas.Bool.{false≢true, true≢false, lt-ltb, le-ltb, cases_lt, cases_Bool, or_cases, not-false}
use Rattle.page_surface.specs.Drawing.{Chord, beyond, differ}
use Rattle.drawing.specs.Pieces.{same_piece, separates}
use Rattle.region_table.proofs.fingers.Walk.{between, between_swap}
use Rattle.obd_base.specs.Lists.{Mem}

-- numbers between p and q
in_true : (p q x : ℕ) → p < q → between p q x ≡ true → (p < x) × (x ≤ q)
in_true p q x l h = elim (cases_lt p x) [
  | inr k ↦ absurd (false≢true (rw (le-ltb p x k, le-ltb q x (omega arith)) at h))
  | inl k ↦ elim (cases_lt q x) [
    | inl m ↦ absurd (false≢true (rw (lt-ltb p x k, lt-ltb q x m) at h))
    | inr m ↦ (k, m)
  ]
]

-- numbers not between them
in_false : (p q x : ℕ) → p < q → between p q x ≡ false → (x ≤ p) ⊎ (q < x)
in_false p q x l h = elim (cases_lt p x) [
  | inr k ↦ inl k
  | inl k ↦ elim (cases_lt q x) [
    | inl m ↦ inr m
    | inr m ↦ absurd (true≢false (rw (lt-ltb p x k, le-ltb q x m) at h))
  ]
]

-- what a chord from number x to span t sees at span s
abbrev pub sees : ℕ → ℕ → ℕ → Bool
sees x t s = differ (ltb x s) (not (ltb s t))

-- a span outside sees nothing of a chord inside
outside_value : (p q x t z : ℕ) → p ≤ x → x ≤ q → p < t → t ≤ q → (z ≤ p) ⊎ (q < z) → sees x t z ≡ false
outside_value p q x t z a b d e (inl h) = rw (le-ltb x z (omega arith), lt-ltb z t (omega arith)) refl
outside_value p q x t z a b d e (inr h) = rw (lt-ltb x z (omega arith), le-ltb z t (omega arith)) refl

-- spans inside see the same of a chord outside
inside_value : (p q x t s r : ℕ) → (x ≤ p) ⊎ (q ≤ x) → (t ≤ p) ⊎ (q < t) → p < s → s ≤ q → p < r → r ≤ q → sees x t s ≡ sees x t r
inside_value p q x t s r (inl a) (inl b) d e g h = rw (lt-ltb x s (omega arith), le-ltb s t (omega arith), lt-ltb x r (omega arith), le-ltb r t (omega arith)) refl
inside_value p q x t s r (inl a) (inr b) d e g h = rw (lt-ltb x s (omega arith), lt-ltb s t (omega arith), lt-ltb x r (omega arith), lt-ltb r t (omega arith)) refl
inside_value p q x t s r (inr a) (inl b) d e g h = rw (le-ltb x s (omega arith), le-ltb s t (omega arith), le-ltb x r (omega arith), le-ltb r t (omega arith)) refl
inside_value p q x t s r (inr a) (inr b) d e g h = rw (le-ltb x s (omega arith), lt-ltb s t (omega arith), le-ltb x r (omega arith), lt-ltb r t (omega arith)) refl

-- the number x isn't strictly on the other side of the ends p < q than span t
abbrev pub OnSide : ℕ → ℕ → ℕ → ℕ → Type 0
OnSide p q t x = (between p q t ≡ true → (p ≤ x) × (x ≤ q)) × (between p q t ≡ false → (x ≤ p) ⊎ (q ≤ x))

-- a number on the side of t: spans on the other side see one thing
side_constant : (p q x t s r : ℕ) → p < q → between p q s ≡ between p q r → between p q t ≢ between p q s → OnSide p q t x → sees x t s ≡ sees x t r
side_constant p q x t s r l h n o = elim (cases_Bool (between p q t)) [
  | inl k ↦
      let fs : between p q s ≡ false = elim (cases_Bool (between p q s)) [ inl m ↦ absurd (n (k ∙ sym m)) | inr m ↦ m ] in
      let w = o.0 k in
      let v = in_true p q t l k in
      outside_value p q x t s w.0 w.1 v.0 v.1 (in_false p q s l fs) ∙ sym (outside_value p q x t r w.0 w.1 v.0 v.1 (in_false p q r l (sym h ∙ fs)))
  | inr k ↦
      let ts : between p q s ≡ true = elim (cases_Bool (between p q s)) [ inl m ↦ m | inr m ↦ absurd (n (k ∙ sym m)) ] in
      let a = in_true p q s l ts in
      let b = in_true p q r l (sym h ∙ ts) in
      inside_value p q x t s r (o.1 k) (in_false p q t l k) a.0 a.1 b.0 b.1
]

-- x is an end, or is no end and lies as t does
abbrev pub Near : ℕ → ℕ → ℕ → ℕ → Type 0
Near p q t x = (x ≡ p) ⊎ ((x ≡ q) ⊎ ((x ≢ p) × (x ≢ q) × (between p q x ≡ between p q t)))

-- an end is on each side
near_side : (p q t x : ℕ) → p < q → Near p q t x → OnSide p q t x
near_side p q t x l (inl h) = (λ k. (omega (arith, h), omega (arith, h, l)), λ k. inl (omega (arith, h)))
near_side p q t x l (inr (inl h)) = (λ k. (omega (arith, h, l), omega (arith, h)), λ k. inr (omega (arith, h)))
near_side p q t x l (inr (inr h)) = (
  λ k. let v = in_true p q x l (h.2 ∙ k) in (omega (arith, v), v.1),
  λ k. elim (in_false p q x l (h.2 ∙ k)) [ inl v ↦ inl v | inr v ↦ inr (omega (arith, v)) ],
)

-- the same for ends in any order
pub ends_constant : (p q x t s r : ℕ) → p ≢ q → between p q s ≡ between p q r → between p q t ≢ between p q s → Near p q t x → sees x t s ≡ sees x t r
ends_constant p q x t s r ne h n o = elim (cases_lt p q) [
  | inl l ↦ side_constant p q x t s r l h n (near_side p q t x l o)
  | inr l ↦ side_constant q p x t s r (omega arith) (between_swap q p s ∙ h ∙ between_swap p q r)
      (λ k. n (between_swap p q t ∙ k ∙ between_swap q p s)) (near_side q p t x (omega arith) (turned o))
]
  where
    turned : Near p q t x → Near q p t x
    turned (inl a) = inr (inl a)
    turned (inr (inl a)) = inl a
    turned (inr (inr a)) = inr (inr (a.1, a.0, between_swap q p x ∙ a.2 ∙ between_swap p q t))

-- spans of two pieces: a chord lies between
pub some_between : (cs : List Chord) (s t : ℕ) → same_piece cs s t ≡ false → (e : Chord) × Mem e cs × (beyond e s ≢ beyond e t)
some_between cs s t h = go cs (not-false _ h)
  where
    twin : (b : Bool) → differ b b ≡ false
    twin true = refl
    twin false = refl

    later : (e : Chord) (cs : List Chord) → (x : Chord) × Mem x cs × (beyond x s ≢ beyond x t) → (x : Chord) × Mem x (e ∷ cs) × (beyond x s ≢ beyond x t)
    later e cs (x, i, n) = (x, inr i, n)

    go : (cs : List Chord) → list_any (λ c. separates c s t) cs ≡ true → (e : Chord) × Mem e cs × (beyond e s ≢ beyond e t)
    go [] h = absurd (false≢true h)
    go (e ∷ cs) h = elim (or_cases (separates e s t) (list_any (λ c. separates c s t) cs) h) [
      | inl q ↦ (e, (inl refl), λ f. false≢true (sym (twin (beyond e t)) ∙ (rw f at q)))
      | inr q ↦ later e cs (go cs q)
    ]
