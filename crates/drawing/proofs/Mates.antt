-- Chords of which each number is at most one end: the other end of a chord, and the diagram that they form.
use Rattle.std.proofs.Common.{◌≡◌, ℕ, ◌<◌, ◌≤◌, Bool, true, false, eqb, ltb, not, List, [], ◌∷◌, refl, sym, ◌∙◌, ap, subst, arith, ◌⊎◌, inl, inr, ◌≢◌}
use Rattle.std.specs.List.{list_all}
use Rattle.std.proofs.lemmas.Bool.{eq-eqb, ne_eqb, lt-ltb, le-ltb, cases_lt, cases_eq, and_parts, not-true}
use Rattle.std.proofs.lemmas.List.Sums.{sum_by-cons}
use Rattle.page_surface.specs.Drawing.{Chord, crosses, differ, no_two_cross}
use Rattle.drawing.specs.Round.{other_end}
use Rattle.obd_base.specs.Lists.{Mem}
use Rattle.drawing.proofs.ChordTree.{IsDiagram}
use Rattle.obd_base.proofs.lists.Sums.{member_adds, members_add}
use Rattle.obd_base.proofs.lists.Below.{bit}
use Rattle.drawing.proofs.Placed.{ends_of, ends_at}
use Rattle.page_surface.proofs.EmbeddedTest.{all_in}

-- each number is the end of at most one chord, and no two chords cross
pub record IsSimple (cs : List Chord) : Type 0 where
  pub once : (x : ℕ) → ends_at cs x ≤ 1
  pub uncrossed : no_two_cross cs ≡ true

-- of two numbers apart one is below the other
ltb_flip : (a b : ℕ) → a ≢ b → ltb a b ≡ not (ltb b a)
ltb_flip a b ne = elim (cases_lt a b) [
  | inl l ↦ rw (lt-ltb a b l, le-ltb b a (omega arith)) refl
  | inr l ↦ rw (le-ltb a b l, lt-ltb b a (omega arith)) refl
]

-- four tests, each turned to its opposite
flips : (p q r s : Bool) → differ (differ (not p) (not q)) (differ (not r) (not s)) ≡ differ (differ p r) (differ q s)
flips true true true true = refl
flips true true true false = refl
flips true true false true = refl
flips true true false false = refl
flips true false true true = refl
flips true false true false = refl
flips true false false true = refl
flips true false false false = refl
flips false true true true = refl
flips false true true false = refl
flips false true false true = refl
flips false true false false = refl
flips false false true true = refl
flips false false true false = refl
flips false false false true = refl
flips false false false false = refl

-- crossing is symmetric where the four ends are apart
pub crosses_sym : (e c : Chord) → (e.from ≢ c.from) × (e.from ≢ c.to) × (e.to ≢ c.from) × (e.to ≢ c.to) → crosses e c ≡ crosses c e
crosses_sym e c (a, b, f, g) =
    rw (ltb_flip e.from c.from a, ltb_flip e.to c.from f, ltb_flip e.from c.to b, ltb_flip e.to c.to g)
    (flips (ltb c.from e.from) (ltb c.from e.to) (ltb c.to e.from) (ltb c.to e.to))

-- a number that is not counted is another one
not_at : (y x : ℕ) → bit (eqb y x) ≡ 0 → y ≢ x
not_at y x e q = absurd (let z : bit (eqb y x) ≡ 1 = rw (eq-eqb y x q) refl in omega arith)

-- a chord that has no end at a number
pub end_here : (c : Chord) (x : ℕ) → ends_of c x ≡ 0 → (c.from ≢ x) × (c.to ≢ x)
end_here c x e = (not_at c.from x (omega arith), not_at c.to x (omega arith))

-- a chord ends at its start
pub ends_from : (c : Chord) → 0 < ends_of c c.from
ends_from c = let z : bit (eqb c.from c.from) ≡ 1 = rw (eq-eqb c.from c.from refl) refl in omega arith

-- and at its end
pub ends_to : (c : Chord) → 0 < ends_of c c.to
ends_to c = let z : bit (eqb c.to c.to) ≡ 1 = rw (eq-eqb c.to c.to refl) refl in omega arith

-- chords with the same two ends are one
pub same_chord : (e c : Chord) → e.from ≡ c.from → e.to ≡ c.to → e ≡ c
same_chord e c p q = rw (p, q) refl

-- two chords are one, or they are not
pub chord_cases : (e c : Chord) → (e ≡ c) ⊎ (e ≢ c)
chord_cases e c = elim (cases_eq e.from c.from) [
  | inr ne ↦ inr (λ q. ne (ap (λ (k : Chord). k.from) q))
  | inl p ↦ elim (cases_eq e.to c.to) [
    | inr ne ↦ inr (λ q. ne (ap (λ (k : Chord). k.to) q))
    | inl q ↦ inl (same_chord e c p q)
  ]
]

-- of two different members the one does not cross the other, in one of the two orders
pub pair_uncrossed : (e c : Chord) (cs : List Chord) → no_two_cross cs ≡ true → Mem e cs → Mem c cs → e ≢ c → (crosses e c ≡ false) ⊎ (crosses c e ≡ false)
pair_uncrossed e c [] h m n ne = absurd m
pair_uncrossed e c (x ∷ cs) h (inl p) (inl q) ne = absurd (ne (p ∙ sym q))
pair_uncrossed e c (x ∷ cs) h (inl p) (inr n) ne =
    let r = and_parts (list_all (λ e. not (crosses x e)) cs) (no_two_cross cs) h in
    inl (not-true _ (subst (λ k. not (crosses k c) ≡ true) (sym p) (all_in (λ e. not (crosses x e)) c cs r.0 n)))
pair_uncrossed e c (x ∷ cs) h (inr m) (inl q) ne =
    let r = and_parts (list_all (λ e. not (crosses x e)) cs) (no_two_cross cs) h in
    inr (not-true _ (subst (λ k. not (crosses k e) ≡ true) (sym q) (all_in (λ e. not (crosses x e)) e cs r.0 m)))
pair_uncrossed e c (x ∷ cs) h (inr m) (inr n) ne =
    let r = and_parts (list_all (λ e. not (crosses x e)) cs) (no_two_cross cs) h in
    pair_uncrossed e c cs r.1 m n ne

module _ (cs : List Chord) (ok : IsSimple cs) where
  -- the two ends of a chord are apart
  pub proper : (c : Chord) → Mem c cs → c.from ≢ c.to
  proper c m e =
      let l = member_adds (λ c. ends_of c c.from) c cs in
      let k = member_adds (λ k. ends_of k c.from) c cs m in
      let a : bit (eqb c.from c.from) ≡ 1 = rw (eq-eqb c.from c.from refl) refl in
      let b : bit (eqb c.to c.from) ≡ 1 = rw (eq-eqb c.to c.from (sym e)) refl in
      absurd (omega (arith, k, a, b, ok.once c.from))

  -- so are the ends of two different chords
  pub ends_apart : (e c : Chord) → Mem e cs → Mem c cs → e ≢ c → (e.from ≢ c.from) × (e.from ≢ c.to) × (e.to ≢ c.from) × (e.to ≢ c.to)
  ends_apart e c m n ne =
      let k = members_add (λ k. ends_of k c.from) e c cs m n ne in
      let l = members_add (λ k. ends_of k c.to) e c cs m n ne in
      let a = end_here e c.from (omega (arith, k, ends_from c, ok.once c.from)) in
      let b = end_here e c.to (omega (arith, l, ends_to c, ok.once c.to)) in
      (a.0, b.0, a.1, b.1)

  -- the chords form a diagram
  pub diagram : IsDiagram cs
  diagram = record {
    proper = λ c i. proper c i;
    clear = λ c e i j. elim (chord_cases e c) [
      | inl q ↦ inl q
      | inr ne ↦
          let apart = ends_apart e c j i ne in
          inr (record { apart = apart; uncrossed = elim (pair_uncrossed e c cs ok.uncrossed j i ne) [ inl q ↦ q | inr q ↦ crosses_sym e c apart ∙ q ] })
    ];
  }

-- the other end of a chord, from its one end
pub other_from : (cs : List Chord) (c : Chord) → ((x : ℕ) → ends_at cs x ≤ 1) → Mem c cs → other_end cs c.from ≡ c.to
other_from [] c once m = absurd m
other_from (e ∷ cs) c once (inl q) = rw q (rw (eq-eqb e.from e.from refl) refl)
other_from (e ∷ cs) c once (inr m) =
    let k = member_adds (λ k. ends_of k c.from) c cs m in
    let s = sum_by-cons (λ k. ends_of k c.from) e cs in
    let r = end_here e c.from (omega (arith, k, s, ends_from c, once c.from)) in
    rw (ne_eqb e.from c.from r.0, ne_eqb e.to c.from r.1) (other_from cs c (λ x. omega (arith, sum_by-cons (λ k. ends_of k x) e cs, once x)) m)

-- and from its other end
pub other_to : (cs : List Chord) (c : Chord) → ((x : ℕ) → ends_at cs x ≤ 1) → Mem c cs → other_end cs c.to ≡ c.from
other_to [] c once m = absurd m
other_to (e ∷ cs) c once (inl q) =
    let s = sum_by-cons (λ k. ends_of k e.to) e cs in
    let b : bit (eqb e.to e.to) ≡ 1 = rw (eq-eqb e.to e.to refl) refl in
    let z : bit (eqb e.from e.to) ≡ 0 = omega (arith, s, b, once e.to) in
    rw q (rw (ne_eqb e.from e.to (not_at e.from e.to z), eq-eqb e.to e.to refl) refl)
other_to (e ∷ cs) c once (inr m) =
    let k = member_adds (λ k. ends_of k c.to) c cs m in
    let s = sum_by-cons (λ k. ends_of k c.to) e cs in
    let r = end_here e c.to (omega (arith, k, s, ends_to c, once c.to)) in
    rw (ne_eqb e.from c.to r.0, ne_eqb e.to c.to r.1) (other_to cs c (λ x. omega (arith, sum_by-cons (λ k. ends_of k x) e cs, once x)) m)

-- where no chord ends, `other_end` stays
pub other_stays : (cs : List Chord) (x : ℕ) → ends_at cs x ≡ 0 → other_end cs x ≡ x
other_stays [] x h = refl
other_stays (e ∷ cs) x h =
    let s = sum_by-cons (λ k. ends_of k x) e cs in
    let r = end_here e x (omega (arith, s, h)) in
    rw (ne_eqb e.from x r.0, ne_eqb e.to x r.1) (other_stays cs x (omega (arith, s, h)))

-- a chord that does not end at the number is passed over
other_later : (e : Chord) (cs : List Chord) (x : ℕ) → e.from ≢ x → e.to ≢ x → other_end (e ∷ cs) x ≡ other_end cs x
other_later e cs x n l = rw (ne_eqb e.from x n, ne_eqb e.to x l) refl

-- a chord with its one end at x, and the other at y
abbrev pub Joins : Chord → ℕ → ℕ → Type 0
Joins c x y = ((c.from ≡ x) × (c.to ≡ y)) ⊎ ((c.to ≡ x) × (c.from ≡ y))

-- the chord that ends at a number
pub chord_here : (cs : List Chord) (x : ℕ) → ends_at cs x ≢ 0 → (c : Chord) × Mem c cs × Joins c x (other_end cs x)
chord_here [] x h = absurd (h refl)
chord_here (e ∷ cs) x h = elim (cases_eq e.from x) [
  | inl q ↦ (e, inl refl, inl (q, rw (eq-eqb e.from x q) refl))
  | inr n ↦ elim (cases_eq e.to x) [
    | inl q ↦ (e, inl refl, inr (q, rw (ne_eqb e.from x n, eq-eqb e.to x q) refl))
    | inr l ↦
        let s = sum_by-cons (λ k. ends_of k x) e cs in
        let a : bit (eqb e.from x) ≡ 0 = rw (ne_eqb e.from x n) refl in
        let b : bit (eqb e.to x) ≡ 0 = rw (ne_eqb e.to x l) refl in
        let (c, m, j) = chord_here cs x (λ z. h (omega (arith, s, a, b, z))) in
        (c, inr m, subst (λ y. Joins c x y) (sym (other_later e cs x n l)) j)
  ]
]

module _ (cs : List Chord) (once : (x : ℕ) → ends_at cs x ≤ 1) where
  -- a chord of the list leads from its one end to the other
  pub other_joins : (c : Chord) (x y : ℕ) → Mem c cs → Joins c x y → other_end cs x ≡ y
  other_joins c x y m (inl (p, q)) = rw (← p) (other_from cs c once m ∙ q)
  other_joins c x y m (inr (p, q)) = rw (← p) (other_to cs c once m ∙ q)

  -- `other_end` is its own inverse
  pub other_twice : (x : ℕ) → other_end cs (other_end cs x) ≡ x
  other_twice x = elim (cases_eq (ends_at cs x) 0) [
    | inl z ↦ ap (other_end cs) (other_stays cs x z) ∙ other_stays cs x z
    | inr nz ↦ let (c, m, j) = chord_here cs x nz in other_joins c (other_end cs x) x m (turn c x _ j)
  ]
    where
      turn : (c : Chord) (x y : ℕ) → Joins c x y → Joins c y x
      turn c x y (inl (p, q)) = inr (q, p)
      turn c x y (inr (p, q)) = inl (q, p)
