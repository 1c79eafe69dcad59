-- The pieces of a diagram of chords that don't cross: the first spans are 0 and the spans just after the lesser ends.
use Rattle.std.proofs.Common.{◌≡◌, ℕ, suc, ◌<◌, Bool, true, false, ltb, not, List, [], ◌∷◌, min, max, refl, sym, ◌∙◌, ap, arith, ◌⊎◌, inl, inr, ◌≢◌}
use Rattle.std.specs.List.{list_any}
use Rattle.std.proofs.lemmas.Bool.{false≢true, lt-ltb, le-ltb, cases_lt, cases_eq, or_cases, not-false, or_left, or_right}
use Rattle.page_surface.specs.Drawing.{Chord, beyond, crosses}
use Rattle.drawing.specs.Pieces.{same_piece, separates}
use Rattle.drawing.proofs.SamePiece.{differ-false, differ_same, same_piece_sym}
use Rattle.obd_base.specs.Lists.{Mem}

-- two chords with four different ends that don't cross
pub record Clear (e c : Chord) : Type 0 where
  pub apart : (e.from ≢ c.from) × (e.from ≢ c.to) × (e.to ≢ c.from) × (e.to ≢ c.to)
  pub uncrossed : crosses e c ≡ false

-- chords with two different ends each, of which any two are one or are clear of one another
pub record IsDiagram (cs : List Chord) : Type 0 where
  pub proper : (c : Chord) → Mem c cs → c.from ≢ c.to
  pub clear : (c e : Chord) → Mem c cs → Mem e cs → (e ≡ c) ⊎ Clear e c

-- the lesser end of a chord, and the greater
abbrev pub low : Chord → ℕ
low c = min c.from c.to

abbrev pub high : Chord → ℕ
high c = max c.from c.to

-- a number that isn't x is below suc x where it is below x
ltb-suc : (a x : ℕ) → a ≢ x → ltb a (suc x) ≡ ltb a x
ltb-suc a x h = elim (cases_lt a x) [
  | inl l ↦ lt-ltb a (suc x) (omega arith) ∙ sym (lt-ltb a x l)
  | inr l ↦ le-ltb a (suc x) (omega arith) ∙ sym (le-ltb a x l)
]

-- a chord that does not end at x lies alike to the spans before and after x
pub beyond-suc : (e : Chord) (x : ℕ) → e.from ≢ x → e.to ≢ x → beyond e (suc x) ≡ beyond e x
beyond-suc e x h k = rw (ltb-suc e.from x h, ltb-suc e.to x k)

-- spans that lie alike to each chord lie in one piece
pub same_from_each : (cs : List Chord) (s t : ℕ) → ((e : Chord) → Mem e cs → beyond e s ≡ beyond e t) → same_piece cs s t ≡ true
same_from_each cs s t h = ap not (go cs h)
  where
    go : (cs : List Chord) → ((e : Chord) → Mem e cs → beyond e s ≡ beyond e t) → list_any (λ c. separates c s t) cs ≡ false
    go [] h = refl
    go (e ∷ cs) h = rw (h e (inl refl), differ_same (beyond e t)) (go cs (λ e i. h e (inr i)))

-- a chord that separates, where spans lie in two pieces
some_separates : (cs : List Chord) (s t : ℕ) → same_piece cs s t ≡ false → (e : Chord) × Mem e cs × (beyond e s ≢ beyond e t)
some_separates cs s t h = go cs (not-false _ h)
  where
    go : (cs : List Chord) → list_any (λ c. separates c s t) cs ≡ true → (e : Chord) × Mem e cs × (beyond e s ≢ beyond e t)
    go [] h = absurd (false≢true h)
    go (e ∷ cs) h = elim (or_cases (separates e s t) (list_any (λ c. separates c s t) cs) h) [
      | inl q ↦ (e, inl refl, λ f. false≢true (sym (differ_same (beyond e t)) ∙ (rw f at q)))
      | inr q ↦ later (go cs q)
    ]
      where
        later : (x : Chord) × Mem x cs × (beyond x s ≢ beyond x t) → (x : Chord) × Mem x (e ∷ cs) × (beyond x s ≢ beyond x t)
        later (x, i, n) = (x, inr i, n)

-- which of the two ends is the lesser one
pub ends : (c : Chord) → ((low c ≡ c.from) × (high c ≡ c.to)) ⊎ ((low c ≡ c.to) × (high c ≡ c.from))
ends c = elim (cases_lt c.from c.to) [ inl l ↦ inl (omega arith, omega arith) | inr l ↦ inr (omega arith, omega arith) ]

-- neither span just outside a chord lies beyond it
beyond_itself : (c : Chord) → c.from ≢ c.to → beyond c (low c) ≡ beyond c (suc (high c))
beyond_itself c ne =
    rw (le-ltb c.from (low c) (omega arith), le-ltb c.to (low c) (omega arith), lt-ltb c.from (suc (high c)) (omega arith), lt-ltb c.to (suc (high c)) (omega arith))

-- nor does another chord tell the two from one another
beyond_other : (e c : Chord) → Clear e c → beyond e (low c) ≡ beyond e (suc (high c))
beyond_other e c q = elim (ends c) [
  | inl l ↦ rw (l.0, l.1, beyond-suc e c.to q.apart.1 q.apart.3) same
  | inr l ↦ rw (l.0, l.1, beyond-suc e c.from q.apart.0 q.apart.2) (sym same)
]
  where
    same : beyond e c.from ≡ beyond e c.to
    same = differ-false _ _ q.uncrossed

-- the spans just outside the two ends of a chord lie in one piece
pub outside_same : (cs : List Chord) → IsDiagram cs → (c : Chord) → Mem c cs → same_piece cs (low c) (suc (high c)) ≡ true
outside_same cs ok c i = same_from_each cs _ _ each
  where
    each : (e : Chord) → Mem e cs → beyond e (low c) ≡ beyond e (suc (high c))
    each e j = elim (ok.clear c e i j) [ inl q ↦ rw q (beyond_itself c (ok.proper c i)) | inr q ↦ beyond_other e c q ]

-- a span with no earlier span in its piece
abbrev pub IsFirst : List Chord → ℕ → Type 0
IsFirst cs s = (t : ℕ) → t < s → same_piece cs s t ≡ false

-- a chord that separates two spans that follow one another ends between them
ends_between : (e : Chord) (x : ℕ) → beyond e (suc x) ≢ beyond e x → (e.from ≡ x) ⊎ (e.to ≡ x)
ends_between e x ne = elim (cases_eq e.from x) [
  | inl q ↦ inl q
  | inr q ↦ elim (cases_eq e.to x) [ inl r ↦ inr r | inr r ↦ absurd (ne (beyond-suc e x q r)) ]
]

-- a test that a member passes, some member passes
pub any_in : (p : Chord → Bool) (c : Chord) (cs : List Chord) → Mem c cs → p c ≡ true → list_any p cs ≡ true
any_in p c [] m h = absurd m
any_in p c (e ∷ cs) (inl q) h = or_left (p e) (list_any p cs) (sym (ap p q) ∙ h)
any_in p c (e ∷ cs) (inr i) h = or_right (p e) (list_any p cs) (any_in p c cs i h)

-- the span just after the lesser end of a chord is the first of its piece
pub after_low_first : (cs : List Chord) → IsDiagram cs → (c : Chord) → Mem c cs → IsFirst cs (suc (low c))
after_low_first cs ok c i t l = ap not (any_in (λ e. separates e (suc (low c)) t) c cs i apart)
  where
    ne : c.from ≢ c.to
    ne = ok.proper c i

    before : beyond c t ≡ false
    before = rw (le-ltb c.from t (omega arith), le-ltb c.to t (omega arith))

    after : beyond c (suc (low c)) ≡ true
    after = elim (cases_lt c.from c.to) [
      | inl q ↦ rw (lt-ltb c.from (suc (low c)) (omega arith), le-ltb c.to (suc (low c)) (omega arith))
      | inr q ↦ rw (le-ltb c.from (suc (low c)) (omega arith), lt-ltb c.to (suc (low c)) (omega arith))
    ]

    apart : separates c (suc (low c)) t ≡ true
    apart = rw (after, before)

-- a first span other than 0 comes just after the lesser end of a chord
pub first_after_low : (cs : List Chord) → IsDiagram cs → (s : ℕ) → IsFirst cs (suc s) → (c : Chord) × Mem c cs × (low c ≡ s)
first_after_low cs ok s h =
    let (c, i, n) = some_separates cs (suc s) s (h s (omega arith)) in
    (c, i, elim (ends_between c s n) [ inl q ↦ at c i (inl q) | inr q ↦ at c i (inr q) ])
  where
    at : (c : Chord) → Mem c cs → (c.from ≡ s) ⊎ (c.to ≡ s) → low c ≡ s
    at c i w = elim (cases_eq (low c) s) [
      | inl q ↦ q
      | inr q ↦
          let e : high c ≡ s = elim w [ inl v ↦ omega arith | inr v ↦ omega arith ] in
          let l : low c < suc s = omega arith in
          let o : same_piece cs (low c) (suc s) ≡ true = rw e at (outside_same cs ok c i) in
          absurd (false≢true (sym (h (low c) l) ∙ same_piece_sym cs (low c) (suc s) o))
    ]
