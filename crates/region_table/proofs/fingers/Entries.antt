-- The table of names after a finger as a list: the split piece's entries are renamed, and two entries are put in at each of two places.
use Rattle.std.proofs.Common.{◌≡◌, ℕ, zero, suc, ◌+◌, ◌<◌, ◌≤◌, Bool, List, [], ◌∷◌, length, get_or, refl, ◌∙◌, ap, arith, inl, inr}
use Rattle.std.proofs.lemmas.Bool.{cases_lt, eq-eqb, ne_eqb}
use Rattle.drawing.proofs.fingers.Shift.{rooms, shift_swap}
use Rattle.std.specs.List.{insert}
use Rattle.region_table.specs.FingerLists.{ArePut, IsNamedByFinger, put_two, renamed_part}

-- two entries more
pub put_length : {X : Type 0} (i : ℕ) (a b : X) (xs : List X) → i ≤ length xs → length (put_two i a b xs) ≡ length xs + 2
put_length zero a b xs l = omega arith
put_length (suc i) a b [] l = absurd (omega arith)
put_length (suc i) a b (x ∷ xs) l = let r = put_length i a b xs (omega arith) in omega (arith, r)

-- entries before the place stay
pub put_before : {X : Type 0} (i : ℕ) (a b : X) (xs : List X) (z : X) (j : ℕ) → i ≤ length xs → j < i → get_or (put_two i a b xs) j z ≡ get_or xs j z
put_before zero a b xs z j l h = absurd (omega arith)
put_before (suc i) a b [] z j l h = absurd (omega arith)
put_before (suc i) a b (x ∷ xs) z zero l h = refl
put_before (suc i) a b (x ∷ xs) z (suc j) l h = put_before i a b xs z j (omega arith) (omega arith)

-- there stand the two
pub put_first : {X : Type 0} (i : ℕ) (a b : X) (xs : List X) (z : X) → i ≤ length xs → get_or (put_two i a b xs) i z ≡ a
put_first zero a b xs z l = refl
put_first (suc i) a b [] z l = absurd (omega arith)
put_first (suc i) a b (x ∷ xs) z l = put_first i a b xs z (omega arith)

-- the second one
pub put_second : {X : Type 0} (i : ℕ) (a b : X) (xs : List X) (z : X) → i ≤ length xs → get_or (put_two i a b xs) (suc i) z ≡ b
put_second zero a b xs z l = refl
put_second (suc i) a b [] z l = absurd (omega arith)
put_second (suc i) a b (x ∷ xs) z l = put_second i a b xs z (omega arith)

-- and the others come after them
pub put_after : {X : Type 0} (i : ℕ) (a b : X) (xs : List X) (z : X) (j : ℕ) → i ≤ length xs → i ≤ j → get_or (put_two i a b xs) (suc (suc j)) z ≡ get_or xs j z
put_after zero a b xs z j l h = refl
put_after (suc i) a b [] z j l h = absurd (omega arith)
put_after (suc i) a b (x ∷ xs) z zero l h = absurd (omega arith)
put_after (suc i) a b (x ∷ xs) z (suc j) l h = put_after i a b xs z j (omega arith) (omega arith)

-- place t before place u
pub put_low : {X : Type 0} (t u : ℕ) (a b c e : X) (xs : List X) → t < u → u < length xs → ArePut t u a b c e xs (put_two t a b (put_two u c e xs))
put_low {X = X} t u a b c e xs l h = record {
  size = omega (arith, put_length t a b ys (omega (arith, n)), n);
  old = λ z s k. elim (cases_lt s t) [
    | inl q ↦ at z s (omega (arith, rooms s t, rooms s u)) ∙ (put_before t a b ys z s (omega (arith, n)) q ∙ put_before u c e xs z s (omega arith) (omega arith))
    | inr q ↦ elim (cases_lt s u) [
      | inl p ↦ at z (suc (suc s)) (omega (arith, rooms s t, rooms s u)) ∙ (put_after t a b ys z s (omega (arith, n)) q ∙ put_before u c e xs z s (omega arith) p)
      | inr p ↦ at z (suc (suc (suc (suc s)))) (omega (arith, rooms s t, rooms s u)) ∙ (put_after t a b ys z (suc (suc s)) (omega (arith, n)) (omega arith) ∙ put_after u c e xs z s (omega arith) p)
    ]
  ];
  first = λ z. at z t (omega (arith, rooms t u)) ∙ put_first t a b ys z (omega (arith, n));
  second = λ z. at z (suc t) (omega (arith, rooms t u)) ∙ put_second t a b ys z (omega (arith, n));
  third = λ z. at z (suc (suc u)) (omega (arith, rooms u t)) ∙ (put_after t a b ys z u (omega (arith, n)) (omega arith) ∙ put_first u c e xs z (omega arith));
  fourth = λ z. at z (suc (suc (suc u))) (omega (arith, rooms u t)) ∙ (put_after t a b ys z (suc u) (omega (arith, n)) (omega arith) ∙ put_second u c e xs z (omega arith));
}
  where
    ys : List X
    ys = put_two u c e xs

    n : length ys ≡ length xs + 2
    n = put_length u c e xs (omega arith)

    at : (z : X) {j : ℕ} (i : ℕ) → j ≡ i → get_or (put_two t a b ys) j z ≡ get_or (put_two t a b ys) i z
    at z i q = ap (λ j. get_or (put_two t a b ys) j z) q

-- and after it
pub put_high : {X : Type 0} (t u : ℕ) (a b c e : X) (xs : List X) → u < t → t < length xs → ArePut t u a b c e xs (put_two u c e (put_two t a b xs))
put_high {X = X} t u a b c e xs l h = turned (put_two u c e (put_two t a b xs)) (put_low u t c e a b xs l h)
  where
    turned : (ys : List X) → ArePut u t c e a b xs ys → ArePut t u a b c e xs ys
    turned ys p = record {
      size = p.size;
      old = λ z s k. ap (λ j. get_or ys j z) (shift_swap t u s) ∙ p.old z s k;
      first = p.third;
      second = p.fourth;
      third = p.first;
      fourth = p.second;
    }

-- two entries put in one by one
pub put_one_by_one : {X : Type 0} (xs : List X) (i : ℕ) (a b : X) → i ≤ length xs → insert (insert xs i b) i a ≡ put_two i a b xs
put_one_by_one xs zero a b l = refl
put_one_by_one [] (suc i) a b l = absurd (omega arith)
put_one_by_one (x ∷ xs) (suc i) a b l = ap (λ ys. x ∷ ys) (put_one_by_one xs i a b (omega arith))

-- so the list is the table of names after the finger
pub named_by_entries : (total t u behind count : ℕ) (first : ℕ → Bool) (name : ℕ → ℕ) (xs ys : List ℕ) → length xs ≡ total
    → ((s : ℕ) → s < total → get_or xs s 0 ≡ renamed_part (name t) count first name s)
    → ArePut t u (name t) (name behind) (name u) (suc count) xs ys → IsNamedByFinger total t u behind count first name (λ w. get_or ys w 0)
named_by_entries total t u behind count first name xs ys len entries put = record {
  others = λ s l n. put.old 0 s (omega arith) ∙ (entries s l ∙ (let z : renamed_part (name t) count first name s ≡ name s = rw (ne_eqb (name s) (name t) n) refl in z));
  in_first = λ s l q f. put.old 0 s (omega arith) ∙ (entries s l ∙ (let z : renamed_part (name t) count first name s ≡ name s = rw (eq-eqb (name s) (name t) q, f) refl in z ∙ q));
  in_second = λ s l q f. put.old 0 s (omega arith) ∙ (entries s l ∙ (let z : renamed_part (name t) count first name s ≡ count = rw (eq-eqb (name s) (name t) q, f) refl in z));
  at_front = put.first 0;
  at_middle = put.second 0;
  at_beyond = put.third 0;
  at_tip = put.fourth 0;
}
