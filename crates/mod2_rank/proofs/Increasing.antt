-- Columns whose rows increase and are below a bound ascend.
use Rattle.std.proofs.Common.{◌≡◌, ℕ, suc, ◌+◌, ◌<◌, ◌≤◌, List, [], ◌∷◌, refl, inl, inr, arith, subst}
use Rattle.std.specs.Prelude.{slice_index}
use Rattle.std.specs.List.Sorted.{IsStrictlyIncreasing}
use Rattle.obd_base.specs.Lists.{Mem}
use Rattle.mod2_rank.specs.Ascending.{AllAscend}
use Rattle.mod2_rank.specs.Linear.{Ascends}

-- one place after the next
next_place : (k : ℕ) → suc k + 1 ≡ suc (k + 1)
next_place k = omega arith

-- numbers that increase from a bound on ascend
ascends : (from most x : ℕ) (xs : List ℕ) → from ≤ x → IsStrictlyIncreasing (x ∷ xs) → ((z : ℕ) → Mem z (x ∷ xs) → z < most) → Ascends from most (x ∷ xs)
ascends from most x [] least rise below = (least, below x (inl refl), tt)
ascends from most x (y ∷ ys) least rise below =
    let next : x < y = rise 0 (omega arith) in
    (least, below x (inl refl), ascends (suc x) most y ys (omega (arith, next)) (λ k within. subst (λ n. slice_index (y ∷ ys) k < slice_index (x ∷ y ∷ ys) n) (next_place k) (rise (suc k) (omega (arith, within)))) (λ z m. below z (inr m)))

-- so a column ascends
column_ascends : (most : ℕ) (xs : List ℕ) → IsStrictlyIncreasing xs → ((z : ℕ) → Mem z xs → z < most) → Ascends 0 most xs
column_ascends most [] rise below = tt
column_ascends most (x ∷ xs) rise below = ascends 0 most x xs (omega arith) rise below

-- and so do all
pub all_ascend : (most : ℕ) (cs : List (List ℕ)) → ((rows : List ℕ) → Mem rows cs → IsStrictlyIncreasing rows) → ((rows : List ℕ) → Mem rows cs → (row : ℕ) → Mem row rows → row < most) → AllAscend most cs
all_ascend most [] rise below = tt
all_ascend most (c ∷ cs) rise below =
    (column_ascends most c (rise c (inl refl)) (below c (inl refl)), all_ascend most cs (λ rows m. rise rows (inr m)) (λ rows m. below rows (inr m)))
