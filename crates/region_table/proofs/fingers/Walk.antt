-- The next span lies in the same piece, and going on from the least span of a piece one comes past all its spans.
use Rattle.std.proofs.Common.{◌≡◌, ℕ, suc, ◌<◌, ◌≤◌, Bool, true, false, ltb, List, refl, sym, ◌∙◌, subst, arith, ◌⊎◌, inl, inr, ◌≢◌}
use Rattle.std.proofs.lemmas.Bool.{false≢true, true≢false, lt-ltb, le-ltb, cases_lt}
use Rattle.page_surface.specs.Drawing.{Chord, beyond, differ}
use Rattle.drawing.specs.Pieces.{same_piece}
use Rattle.drawing.specs.Round.{other_end}
use Rattle.drawing.proofs.SamePiece.{differ-false as same_from_differ}
use Rattle.drawing.proofs.ChordTree.{beyond-suc, same_from_each}
use Rattle.drawing.proofs.fingers.Arranged.{Arranged, arranged_proper, arranged_clear, alike}
use Rattle.region_table.proofs.fingers.Next.{next, other_cases}
use Rattle.obd_base.specs.Lists.{Mem}

-- what lies between two numbers
abbrev pub between : ℕ → ℕ → ℕ → Bool
between p q x = differ (ltb p x) (ltb q x)

-- between q and p
pub between_swap : (p q x : ℕ) → between p q x ≡ between q p x
between_swap p q x = go (ltb p x) (ltb q x)
  where
    go : (b d : Bool) → differ b d ≡ differ d b
    go true true = refl
    go true false = refl
    go false true = refl
    go false false = refl

-- just before one end and just after the other
pub between_ends : (p q : ℕ) → p ≢ q → between p q p ≡ between p q (suc q)
between_ends p q ne = elim (cases_lt p q) [
  | inl l ↦ rw (le-ltb p p (omega arith), le-ltb q p (omega arith), lt-ltb p (suc q) (omega arith), lt-ltb q (suc q) (omega arith)) refl
  | inr l ↦ rw (le-ltb p p (omega arith), lt-ltb q p (omega arith), le-ltb p (suc q) (omega arith), lt-ltb q (suc q) (omega arith)) refl
]

-- from p on to a later number on p's side: q stands between
pub between_up : (p q t : ℕ) → p ≢ q → between p q p ≡ between p q t → p < t → (p < q) × (q < t)
between_up p q t ne h l = elim (cases_lt p q) [
  | inl k ↦ (
    k,
    elim (cases_lt q t) [
      | inl m ↦ m
      | inr m ↦ absurd (false≢true (rw (le-ltb p p (omega arith), le-ltb q p (omega arith), lt-ltb p t l, le-ltb q t m) at h))
    ],
  )
  | inr k ↦ absurd (true≢false (rw (le-ltb p p (omega arith), lt-ltb q p (omega arith), lt-ltb p t l, lt-ltb q t (omega arith)) at h))
]

-- where q stands before p, all numbers on p's side come after q
between_down : (p q t : ℕ) → between p q p ≡ between p q t → q < p → q < t
between_down p q t h l = elim (cases_lt q t) [
  | inl m ↦ m
  | inr m ↦ absurd (true≢false (rw (le-ltb p p (omega arith), lt-ltb q p l, le-ltb p t (omega arith), le-ltb q t m) at h))
]

-- a chord and one of its ends p, the other being q
pub record EndOf (cs : List Chord) (c : Chord) (p q : ℕ) : Type 0 where
  pub in_list : Mem c cs
  pub apart : p ≢ q
  pub test : (x : ℕ) → beyond c x ≡ between p q x
  pub clear : (e : Chord) → Mem e cs → (e ≡ c) ⊎ ((e.from ≢ q) × (e.to ≢ q) × (beyond e p ≡ beyond e q))
  pub away : (e : Chord) → Mem e cs → (e ≡ c) ⊎ ((e.from ≢ p) × (e.to ≢ p))

-- at each number stands the end of a chord, or nothing
pub ending : (cs : List Chord) → Arranged cs → (x : ℕ) → ((c : Chord) × EndOf cs c x (other_end cs x))
    ⊎ (((c : Chord) → Mem c cs → (c.from ≢ x) × (c.to ≢ x)) × (other_end cs x ≡ x))
ending cs ok x = elim (other_cases cs x) [
  | inl w ↦ (let (c, i, v) = w in inl (
    c,
    elim v [
      | inl q ↦ subst (λ z. EndOf cs c z (other_end cs x)) q.0 (subst (λ z. EndOf cs c c.from z) (sym q.1) (one c i))
      | inr q ↦ subst (λ z. EndOf cs c z (other_end cs x)) q.0 (subst (λ z. EndOf cs c c.to z) (sym q.1) (two c i))
    ],
  ))
  | inr w ↦ inr w
]
  where
    one : (c : Chord) → Mem c cs → EndOf cs c c.from c.to
    one c i = record {
      in_list = i;
      apart = arranged_proper cs ok c i;
      test = λ x. refl;
      clear = λ e j. elim (arranged_clear cs ok c e i j) [ inl q ↦ inl q | inr q ↦ inr (q.apart.1, q.apart.3, same_from_differ _ _ q.uncrossed) ];
      away = λ e j. elim (arranged_clear cs ok c e i j) [ inl q ↦ inl q | inr q ↦ inr (q.apart.0, q.apart.2) ];
    }

    two : (c : Chord) → Mem c cs → EndOf cs c c.to c.from
    two c i = record {
      in_list = i;
      apart = λ q. arranged_proper cs ok c i (sym q);
      test = λ x. between_swap c.from c.to x;
      clear = λ e j. elim (arranged_clear cs ok c e i j) [ inl q ↦ inl q | inr q ↦ inr (q.apart.0, q.apart.2, sym (same_from_differ _ _ q.uncrossed)) ];
      away = λ e j. elim (arranged_clear cs ok c e i j) [ inl q ↦ inl q | inr q ↦ inr (q.apart.1, q.apart.3) ];
    }

--
pub next_same : (cs : List Chord) → Arranged cs → (s : ℕ) → same_piece cs s (next cs s) ≡ true
next_same cs ok s = same_from_each cs s (next cs s) each
  where
    each : (e : Chord) → Mem e cs → beyond e s ≡ beyond e (next cs s)
    each e i = elim (ending cs ok s) [
      | inr w ↦ rw w.1 (sym (beyond-suc e s (w.0 e i).0 (w.0 e i).1))
      | inl w ↦ (let (c, q) = w in elim (q.clear e i) [
        | inl r ↦ subst (λ z. beyond z s ≡ beyond z (next cs s)) (sym r) (q.test s ∙ between_ends s (other_end cs s) q.apart ∙ sym (q.test (next cs s)))
        | inr r ↦ r.2 ∙ sym (beyond-suc e (other_end cs s) r.0 r.1)
      ])
    ]

-- the next span doesn't go past a later span of the piece
pub next_up : (cs : List Chord) → Arranged cs → (s t : ℕ) → same_piece cs s t ≡ true → s < t → (s < next cs s) × (next cs s ≤ t)
next_up cs ok s t h l = elim (ending cs ok s) [
  | inr w ↦ (omega (arith, w.1), omega (arith, w.1))
  | inl w ↦ (let (c, q) = w in
      let b = between_up s (other_end cs s) t q.apart (sym (q.test s) ∙ alike cs s t h c q.in_list ∙ q.test t) l in
      (omega (arith, b), omega (arith, b)))
]

-- where the next span is no later, it is the least of the piece
pub next_down : (cs : List Chord) → Arranged cs → (s t : ℕ) → same_piece cs s t ≡ true → next cs s ≤ s → next cs s ≤ t
next_down cs ok s t h l = elim (ending cs ok s) [
  | inr w ↦ absurd {A = next cs s ≤ t} (let z : ⊥ = omega (arith, w.1) in z)
  | inl w ↦ (let (c, q) = w in
      let b = between_down s (other_end cs s) t (sym (q.test s) ∙ alike cs s t h c q.in_list ∙ q.test t) l in
      omega (arith, b))
]
