-- The first of some lines with a rule that isn't kept.
use Rattle.std.proofs.Common.{◌≡◌, ℕ, zero, suc, ◌+◌, ◌<◌, ◌≤◌, Bool, true, false, List, [], ◌∷◌, map, length, take, get_or, cond, Option, Some, None, refl, ◌∙◌, ap, ap₂, arith, subst}
use Rattle.std.specs.List.{enumerate_from}
use Rattle.witness_check.specs.Checked.{fault_or, first_broken, first_fault}
use Rattle.witness_check.specs.Rules.{Rule, each, rule}
use Rattle.witness_check.specs.declared.checked.Reason.{Reason}
use Rattle.witness_check.specs.declared.fault.Fault.{Fault}
use Rattle.witness_check.specs.declared.fault.Stop.TheVariants as stop

module _ {A : Type 0} where
  -- the entry at a place
  pub same_at : (xs : List A) (k : ℕ) (d e : A) → k < length xs → get_or xs k d ≡ get_or xs k e
  same_at [] k d e within = absurd (omega (arith, within))
  same_at (x ∷ xs) zero d e within = refl
  same_at (x ∷ xs) (suc k) d e within = same_at xs k d e (omega (arith, within))

  -- entries that are numbered from a later number on
  later : (rules : ℕ → A → List Rule) (n : ℕ) (xs : List A)
      → map (λ e. rules e.0 e.1) (enumerate_from (n + 1) xs) ≡ map (λ e. rules (suc e.0) e.1) (enumerate_from n xs)
  later rules n [] = refl
  later rules n (x ∷ xs) = ap₂ (λ (i : ℕ) (rest : List (List Rule)). rules i x ∷ rest) (omega arith) (later rules (n + 1) xs)

  -- the first fault is that of the first line, or one of the others
  first_or_later : (rules : ℕ → A → List Rule) (x : A) (xs : List A)
      → first_fault (each rules (x ∷ xs)) ≡ fault_or (first_fault (each (λ i. rules (suc i)) xs)) (first_broken (rules 0 x))
  first_or_later rules x xs = ap (λ (lines : List (List Rule)). fault_or (first_fault lines) (first_broken (rules 0 x))) (later rules 0 xs)

  -- where the rules of each line are kept there is none
  pub no_fault : (rules : ℕ → A → List Rule) (xs : List A) → ((i : ℕ) (d : A) → i < length xs → first_broken (rules i (get_or xs i d)) ≡ None)
      → first_fault (each rules xs) ≡ None
  no_fault rules [] kept = refl
  no_fault rules (x ∷ xs) kept =
      let rest : first_fault (each (λ i. rules (suc i)) xs) ≡ None = no_fault (λ i. rules (suc i)) xs (λ i d l. kept (suc i) d (omega (arith, l))) in
      let here : first_broken (rules 0 x) ≡ None = kept 0 x (omega arith) in
      first_or_later rules x xs ∙ rw (rest, here) refl

  -- a line with a rule that isn't kept, behind lines of which the rules are kept
  pub fault_at : (rules : ℕ → A → List Rule) (xs : List A) (k : ℕ) (d : A) (broken : Rule)
      → k < length xs → ((i : ℕ) (e : A) → i < k → first_broken (rules i (get_or xs i e)) ≡ None) → first_broken (rules k (get_or xs k d)) ≡ Some broken
      → first_fault (each rules xs) ≡ Some (record { at = k; reason = broken.reason })
  fault_at rules [] k d broken within kept found = absurd (omega (arith, within))
  fault_at rules (x ∷ xs) zero d broken within kept found = first_or_later rules x xs ∙ ap (fault_or (first_fault (each (λ i. rules (suc i)) xs))) found
  fault_at rules (x ∷ xs) (suc k) d broken within kept found =
      let rest : first_fault (each (λ i. rules (suc i)) xs) ≡ Some (record { at = k; reason = broken.reason })
      = fault_at (λ i. rules (suc i)) xs k d broken (omega (arith, within)) (λ i e l. kept (suc i) e (omega (arith, l))) found in
      let here : first_broken (rules 0 x) ≡ None = kept 0 x (omega arith) in
      first_or_later rules x xs ∙ rw (rest, here) refl

-- a test passes on a part of the entries after each of the first ones, and fails after entry k
pub record Breaks {A : Type 0} (passes : List A → Bool) (xs : List A) (k : ℕ) : Type 0 where
  pub within : k < length xs
  pub before : (i : ℕ) → i ≤ k → passes (take i xs) ≡ true
  pub at : passes (take (suc k) xs) ≡ false

-- one entry before others
pub breaks_here : {A : Type 0} (passes : List A → Bool) (x : A) (xs : List A) → passes [] ≡ true → passes (x ∷ []) ≡ false → Breaks passes (x ∷ xs) 0
breaks_here {A = A} passes x xs first one = record { within = omega arith; before = before; at = one }
  where
    before : (i : ℕ) → i ≤ 0 → passes (take i (x ∷ xs)) ≡ true
    before zero l = first
    before (suc i) l = absurd (omega (arith, l))

pub breaks_later : {A : Type 0} (passes then : List A → Bool) (x : A) (xs : List A) (k : ℕ)
    → passes [] ≡ true → ((ys : List A) → passes (x ∷ ys) ≡ then ys) → Breaks then xs k → Breaks passes (x ∷ xs) (suc k)
breaks_later {A = A} passes then x xs k first so b = record { within = omega (arith, b.within); before = before; at = so (take (suc k) xs) ∙ b.at }
  where
    before : (i : ℕ) → i ≤ suc k → passes (take i (x ∷ xs)) ≡ true
    before zero l = first
    before (suc i) l = so (take i xs) ∙ b.before i (omega (arith, l))

-- the rule that a line with one rule breaks
pub broken_where : (reason : Reason) (found so : Bool) → found ≡ so → (rules : List Rule) → rules ≡ rule reason found ∷ []
    → first_broken rules ≡ cond so None (Some (rule reason so))
broken_where reason found true e rules is = rw (is, e) refl
broken_where reason found false e rules is = rw (is, e) refl

-- a fault is what it is
pub that_fault : (P : Option Fault → Type 0) (one other : Fault) → stop.Fault one ≡ stop.Fault other → P (Some one) → P (Some other)
that_fault P one other same so = subst (λ fault. P (Some fault)) (let e : one ≡ other = cc in e) so
