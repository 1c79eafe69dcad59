-- Where a chord's number goes while other chords of its strand are pushed.
use Rattle.std.proofs.Common.{◌≡◌, ℕ, ◌+◌, ◌≤◌, cond, eqb, ltb, ◌&&◌, List, [], ◌∷◌, ◌++◌, refl, sym, ◌∙◌, arith, inl, inr}
use Rattle.std.specs.List.{sum_by}
use Rattle.std.proofs.lemmas.Bool.{cases_eq, cases_lt, eq-eqb, ne_eqb, lt-ltb, le-ltb}
use Rattle.std.proofs.lemmas.List.Sums.{sum_by-cons, sum_by-append}
use Rattle.nice_plan.specs.declared.chord_name.ChordName.{ChordName}
use Rattle.nice_plan.specs.Numbers.{chord_lift}

lift_up : (n : ℕ) (b c e : ChordName) → e.strand ≡ c.strand → c.chord ≤ e.chord → chord_lift n b c ≤ chord_lift n b e
lift_up n b c e q l = elim (cases_eq c.strand b.strand) [
  | inl k ↦ elim (cases_lt b.chord c.chord) [
    | inl w ↦ (let x : chord_lift n b c ≡ n + n = rw (eq-eqb _ _ k, lt-ltb _ _ w) refl in let y : chord_lift n b e ≡ n + n = rw (eq-eqb _ _ (q ∙ k), lt-ltb b.chord e.chord (omega (arith, w, l))) refl in omega (arith, x, y))
    | inr w ↦ (let x : chord_lift n b c ≡ 0 = rw (eq-eqb _ _ k, le-ltb _ _ w) refl in omega (arith, x))
  ]
  | inr k ↦ (let x : chord_lift n b c ≡ 0 = rw (ne_eqb _ _ k) refl in omega (arith, x))
]

-- a later chord is raised no less
pub lifts_up : (n : ℕ) (before : List ChordName) (c e : ChordName) → e.strand ≡ c.strand → c.chord ≤ e.chord → sum_by (λ b. chord_lift n b c) before ≤ sum_by (λ b. chord_lift n b e) before
lifts_up n [] c e q l = omega arith
lifts_up n (b ∷ before) c e q l =
    omega (arith, lift_up n b c e q l, lifts_up n before c e q l, sum_by-cons (λ b. chord_lift n b c) b before, sum_by-cons (λ b. chord_lift n b e) b before)

-- one more chord pushed
pub chord_after : (n : ℕ) (before : List ChordName) (c e : ChordName)
    → cond (eqb e.strand c.strand && ltb (c.chord + sum_by (λ b. chord_lift n b c) before) (e.chord + sum_by (λ b. chord_lift n b e) before)) (n + n) 0 ≡ chord_lift n c e
chord_after n before c e = elim (cases_eq e.strand c.strand) [
  | inl q ↦ elim (cases_lt c.chord e.chord) [
    | inl l ↦ (let u = lifts_up n before c e q (omega (arith, l)) in
        rw (eq-eqb e.strand c.strand q, lt-ltb (c.chord + sum_by (λ b. chord_lift n b c) before) (e.chord + sum_by (λ b. chord_lift n b e) before) (omega (arith, l, u)), lt-ltb c.chord e.chord l) refl)
    | inr l ↦ (let u = lifts_up n before e c (sym q) l in
        rw (eq-eqb e.strand c.strand q, le-ltb (c.chord + sum_by (λ b. chord_lift n b c) before) (e.chord + sum_by (λ b. chord_lift n b e) before) (omega (arith, l, u)), le-ltb c.chord e.chord l) refl)
  ]
  | inr q ↦ rw (ne_eqb e.strand c.strand q) refl
]

-- what one more chord adds
pub lifts_last : (n : ℕ) (before : List ChordName) (c e : ChordName) → sum_by (λ b. chord_lift n b e) (before ++ (c ∷ [])) ≡ sum_by (λ b. chord_lift n b e) before + chord_lift n c e
lifts_last n before c e = sum_by-append (λ b. chord_lift n b e) before (c ∷ []) ∙ (let a = sum_by-cons (λ b. chord_lift n b e) c [] in omega (arith, a))
