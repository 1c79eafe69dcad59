-- The first fault of some lines, one line after another, and with a rule for the last line alone.
use Rattle.std.proofs.Common.{◌≡◌, ℕ, zero, suc, ◌+◌, ◌<◌, ◌≤◌, true, false, cond, not, nat_eq, List, [], ◌∷◌, ◌++◌, length, map, take, drop, get_or, take_all, length-take-le, drop-cons, eqb-true, eq-eqb, length-append, Option, None, Some, refl, sym, ◌∙◌, ap, ap₂, arith, subst, inl, inr}
use Rattle.std.specs.Prelude.{option_map}
use Rattle.std.specs.List.{enumerate_from}
use Rattle.std.proofs.lemmas.Bool.{cases_Bool}
use Rattle.std.proofs.lemmas.List.{take_more, take-append-drop}
use Rattle.witness_check.specs.declared.checked.Reason.{Reason}
use Rattle.witness_check.specs.declared.fault.Fault.{Fault}
use Rattle.witness_check.specs.Checked.{fault_or, first_broken, first_fault, one_later}
use Rattle.witness_check.specs.Rules.{Rule, each}

-- a fault by its line and its reason
abbrev pub fault_at : ℕ → Reason → Fault
fault_at at reason = record { at = at; reason = reason }

-- the fault of a single rule of a line
abbrev pub alone : ℕ → Rule → Option Fault
alone n r = cond r.keeps None (Some (fault_at n r.reason))

-- the lines of some entries, numbered from some number on
abbrev numbered : {A : Type 0} → (ℕ → A → List Rule) → ℕ → List A → List (List Rule)
numbered rules k xs = map (λ e. rules e.0 e.1) (enumerate_from k xs)

-- a fault isn't none
not_none : {X : Type 0} {x : X} → Some x ≡ None → ⊥
not_none e = cc

-- no later fault, no fault
later_none : (found : Option Fault) → option_map one_later found ≡ None → found ≡ None
later_none None e = refl
later_none (Some f) e = absurd (not_none e)

module _ {A : Type 0} (own : ℕ → A → Rule) where
  -- lines with one rule each
  abbrev pub own_rules : ℕ → A → List Rule
  own_rules i x = own i x ∷ []

  -- the first fault of the lines from some number on
  abbrev fault_from : ℕ → List A → Option Fault
  fault_from k xs = first_fault (numbered own_rules k xs)

  -- a line that keeps its rule is passed, and one that doesn't has the fault
  passed : (k : ℕ) (y : A) (xs : List A) → (own k y).keeps ≡ true → fault_from k (y ∷ xs) ≡ option_map one_later (fault_from (k + 1) xs)
  passed k y xs h = ap (λ b. fault_or (fault_from (k + 1) xs) (cond (not b) (Some (own k y)) None)) h

  stopped : (k : ℕ) (y : A) (xs : List A) → (own k y).keeps ≡ false → fault_from k (y ∷ xs) ≡ Some (fault_at 0 (own k y).reason)
  stopped k y xs h = ap (λ b. fault_or (fault_from (k + 1) xs) (cond (not b) (Some (own k y)) None)) h

  -- where there is none, the first line keeps its rule, and the others do
  head_keeps : (k : ℕ) (y : A) (xs : List A) → fault_from k (y ∷ xs) ≡ None → (own k y).keeps ≡ true
  head_keeps k y xs none = elim (cases_Bool (own k y).keeps) [
    | inl h ↦ h
    | inr h ↦ absurd (not_none (sym (ap (λ b. fault_or (fault_from (k + 1) xs) (cond (not b) (Some (own k y)) None)) h) ∙ none))
  ]

  tail_none : (k : ℕ) (y : A) (xs : List A) → fault_from k (y ∷ xs) ≡ None → fault_from (k + 1) xs ≡ None
  tail_none k y xs none = later_none (fault_from (k + 1) xs) (sym (passed k y xs (head_keeps k y xs none)) ∙ none)

  -- one good line more
  none_from : (k n : ℕ) (xs : List A) (x : A) → n ≡ k + length xs → fault_from k xs ≡ None → (own n x).keeps ≡ true → fault_from k (xs ++ x ∷ []) ≡ None
  none_from k n [] x e none keeps = passed k x [] (subst (λ m. (own m x).keeps ≡ true) (omega (arith, e)) keeps)
  none_from k n (y ∷ xs) x e none keeps =
      passed k y (xs ++ x ∷ []) (head_keeps k y xs none) ∙ ap (option_map one_later) (none_from (k + 1) n xs x (omega (arith, e)) (tail_none k y xs none) keeps)

  -- a bad line after good ones
  some_from : (k n : ℕ) (xs : List A) (x : A) (ys : List A) → n ≡ k + length xs → fault_from k xs ≡ None → (own n x).keeps ≡ false
      → fault_from k (xs ++ x ∷ ys) ≡ Some (fault_at (length xs) (own n x).reason)
  some_from k n [] x ys e none broken =
      let same : n ≡ k = omega (arith, e) in
      subst (λ m. fault_from k (x ∷ ys) ≡ Some (fault_at 0 (own m x).reason)) (sym same) (stopped k x ys (subst (λ m. (own m x).keeps ≡ false) same broken))
  some_from k n (y ∷ xs) x ys e none broken =
      passed k y (xs ++ x ∷ ys) (head_keeps k y xs none) ∙ ap (option_map one_later) (some_from (k + 1) n xs x ys (omega (arith, e)) (tail_none k y xs none) broken)

  -- the lines so far are good, and so is the next
  pub good_more : (xs : List A) (i : ℕ) (x : A) → i < length xs → x ≡ get_or xs i x → first_fault (each own_rules (take i xs)) ≡ None → (own i x).keeps ≡ true
      → first_fault (each own_rules (take (i + 1) xs)) ≡ None
  good_more xs i x within is none keeps =
      let long : length (take i xs) ≡ i = length-take-le i xs (omega arith) in
      rw (take_more xs i x within, ← is) (none_from 0 i (take i xs) x (omega (arith, long)) none keeps)

  -- the lines so far are good, and the next isn't
  pub bad_here : (xs : List A) (i : ℕ) (x : A) → i < length xs → x ≡ get_or xs i x → first_fault (each own_rules (take i xs)) ≡ None → (own i x).keeps ≡ false
      → first_fault (each own_rules xs) ≡ Some (fault_at i (own i x).reason)
  bad_here xs i x within is none broken =
      let long : length (take i xs) ≡ i = length-take-le i xs (omega arith) in
      let cut : xs ≡ take i xs ++ x ∷ drop (suc i) xs = sym (take-append-drop i xs) ∙ ap (λ zs. take i xs ++ zs) (drop-cons xs i x within ∙ ap (λ z. z ∷ drop (suc i) xs) (sym is)) in
      ap (λ zs. first_fault (each own_rules zs)) cut ∙ (some_from 0 i (take i xs) x (drop (suc i) xs) (omega (arith, long)) none broken
      ∙ ap (λ m. Some (fault_at m (own i x).reason)) long)

  -- so many lines that are good are all of them
  pub all_good : (xs : List A) (n : ℕ) → length xs ≤ n → first_fault (each own_rules (take n xs)) ≡ None → first_fault (each own_rules xs) ≡ None
  all_good xs n long none = ap (λ zs. first_fault (each own_rules zs)) (sym (take_all n xs long)) ∙ none

  module _ (n : ℕ) (last : Rule) where
    -- the same lines, the last of so many with a rule of its own
    abbrev pub ended_rules : ℕ → A → List Rule
    ended_rules i x = own i x ∷ cond (nat_eq (suc i) n) (last ∷ []) []

    -- a line that isn't the last
    early : (k : ℕ) → suc k < n → nat_eq (suc k) n ≡ false
    early k before = elim (cases_Bool (nat_eq (suc k) n)) [
      | inl h ↦ absurd (let same : suc k ≡ n = eqb-true (suc k) n h in omega (arith, same, before))
      | inr h ↦ h
    ]

    -- lines before the last one don't see its rule
    early_lines : (k : ℕ) (xs : List A) → k + length xs < n → numbered ended_rules k xs ≡ numbered own_rules k xs
    early_lines k [] before = refl
    early_lines k (x ∷ xs) before =
        ap₂ (λ (rules : List Rule) (lines : List (List Rule)). rules ∷ lines)
        (ap (λ b. own k x ∷ cond b (last ∷ []) []) (early k (omega (arith, before)))) (early_lines (k + 1) xs (omega (arith, before)))

    -- the fault of the last rule comes after all others
    abbrev pub then_last : ℕ → Option Fault → Option Fault
    then_last at (Some fault) = Some fault
    then_last at None = alone at last

    last_later : (at : ℕ) (found : Option Fault) → option_map one_later (then_last at found) ≡ then_last (suc at) (option_map one_later found)
    last_later at (Some fault) = refl
    last_later at None = elim (cases_Bool last.keeps) [ inl h ↦ rw h refl | inr h ↦ rw h refl ]

    -- the first fault of all lines
    ended_from : (k : ℕ) (x : A) (xs : List A) → n ≡ k + suc (length xs) → first_fault (numbered ended_rules k (x ∷ xs)) ≡ then_last (length xs) (fault_from k (x ∷ xs))
    ended_from k x [] e =
        let here : nat_eq (suc k) n ≡ true = eq-eqb (suc k) n (omega (arith, e)) in
        ap (λ b. fault_or None (first_broken (own k x ∷ cond b (last ∷ []) []))) here ∙ elim (cases_Bool (own k x).keeps) [
          | inl h ↦ elim (cases_Bool last.keeps) [ inl l ↦ rw (h, l) refl | inr l ↦ rw (h, l) refl ]
          | inr h ↦ rw h refl
        ]
    ended_from k x (y ∷ ys) e =
        ap (λ b. fault_or (first_fault (numbered ended_rules (k + 1) (y ∷ ys))) (first_broken (own k x ∷ cond b (last ∷ []) []))) (early k (omega (arith, e)))
        ∙ (ap (λ found. fault_or found (first_broken (own k x ∷ []))) (ended_from (k + 1) y ys (omega (arith, e))) ∙ elim (cases_Bool (own k x).keeps) [
          | inl h ↦ rw h (last_later (length ys) (fault_from (k + 1) (y ∷ ys)))
          | inr h ↦ rw h refl
        ])

    -- the lines before the last one
    pub before_last : (all read more : List A) (next : A) → all ≡ read ++ next ∷ more → n ≡ length all → first_fault (each ended_rules read) ≡ first_fault (each own_rules read)
    before_last all read more next is size =
        ap first_fault (early_lines 0 read (omega (arith, size, ap length is, length-append read (next ∷ more))))

    -- all lines, of which there is one
    pub with_last : (xs : List A) (m : ℕ) → n ≡ length xs → length xs ≡ suc m → first_fault (each ended_rules xs) ≡ then_last m (first_fault (each own_rules xs))
    with_last [] m size some = absurd (omega (arith, some))
    with_last (x ∷ xs) m size some =
        let same : length xs ≡ m = omega (arith, some) in
        ended_from 0 x xs (omega (arith, size)) ∙ ap (λ at. then_last at (first_fault (each own_rules (x ∷ xs)))) same

  -- where no line has a fault, each keeps its rule
  kept_from : (k n i : ℕ) (xs : List A) (x : A) → fault_from k xs ≡ None → i < length xs → x ≡ get_or xs i x → n ≡ k + i → (own n x).keeps ≡ true
  kept_from k n i [] x none within is e = absurd (omega (arith, within))
  kept_from k n zero (y ∷ xs) x none within is e =
      let same : k ≡ n = omega (arith, e) in
      subst (λ m. (own m x).keeps ≡ true) same (subst (λ z. (own k z).keeps ≡ true) (sym is) (head_keeps k y xs none))
  kept_from k n (suc i) (y ∷ xs) x none within is e = kept_from (k + 1) n i xs x (tail_none k y xs none) (omega (arith, within)) is (omega (arith, e))

  pub kept_at : (xs : List A) (i : ℕ) (x : A) → first_fault (each own_rules xs) ≡ None → i < length xs → x ≡ get_or xs i x → (own i x).keeps ≡ true
  kept_at xs i x none within is = kept_from 0 i i xs x none within is (omega arith)

  -- rules that are the same for all of some lines
  agree_from : (other : ℕ → A → Rule) (n k : ℕ) (xs : List A) → ((i : ℕ) (x : A) → i < n → own i x ≡ other i x) → k + length xs ≤ n
      → numbered own_rules k xs ≡ numbered (λ i x. other i x ∷ []) k xs
  agree_from other n k [] same within = refl
  agree_from other n k (x ∷ xs) same within =
      ap₂ (λ (r : Rule) (lines : List (List Rule)). (r ∷ []) ∷ lines) (same k x (omega (arith, within))) (agree_from other n (k + 1) xs same (omega (arith, within)))

  pub agree : (other : ℕ → A → Rule) (xs : List A) → ((i : ℕ) (x : A) → i < length xs → own i x ≡ other i x)
      → first_fault (each own_rules xs) ≡ first_fault (each (λ i x. other i x ∷ []) xs)
  agree other xs same = ap first_fault (agree_from other (length xs) 0 xs same (omega arith))
