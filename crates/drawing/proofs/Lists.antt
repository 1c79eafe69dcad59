-- Members of joined lists, the first number that passes a test, and lists written back whole.
use Rattle.std.proofs.Common.{◌≡◌, ℕ, zero, suc, ◌<◌, Bool, true, false, List, [], ◌∷◌, ◌++◌, drop, length, get_or, take, eqb, refl, sym, ◌∙◌, subst, arith, zero-add, inl, inr}
use Rattle.std.specs.List.{flat_map, position_or_len, sum_by}
use Rattle.std.proofs.lemmas.List.{append-nil, drop_all, take_all}
use Rattle.std.proofs.lemmas.List.Sums.{sum_by-cons, position_or_len_is, fails_before_first}
use Rattle.std.proofs.lemmas.List.FromFn.{length-range_with_len, get_or-range_with_len}
use Rattle.std.proofs.lemmas.Bool.{cases_Bool, eqb-true, eq-eqb, false≢true}
use Rattle.obd_base.specs.Lists.{below, has, Mem}
use Rattle.obd_base.proofs.lists.Members.{mem_left, mem_right}
pub use Rattle.obd_base.proofs.lists.Members.{flat_mem, mem_flat, mem_to_map}

-- a member of a row is a member of all rows joined
pub mem_row : {X : Type 0} (rows : List (List X)) (i : ℕ) (x : X) → Mem x (get_or rows i []) → Mem x (flat_map (λ s. s) rows)
mem_row [] i x m = absurd m
mem_row (r ∷ rows) zero x m = mem_left x r (flat_map (λ s. s) rows) m
mem_row (r ∷ rows) (suc i) x m = mem_right x r (flat_map (λ s. s) rows) (mem_row rows i x m)

-- what is read of a list is a member
pub mem_at : {X : Type 0} (xs : List X) (i : ℕ) (x : X) → i < length xs → x ≡ get_or xs i x → Mem x xs
mem_at [] i x l e = absurd (omega arith)
mem_at (y ∷ xs) zero x l e = inl e
mem_at (y ∷ xs) (suc i) x l e = inr (mem_at xs i x (omega arith) e)

-- the first number below n that passes
pub first_is : (p : ℕ → Bool) (n s : ℕ) → s < n → p s ≡ true → ((t : ℕ) → t < s → p t ≡ false) → position_or_len p (below n) ≡ s
first_is p n s l h none = position_or_len_is p (below n) s 0 (let z = length-range_with_len 0 n in omega (arith, z))
    (λ k lk. let e : get_or (below n) k 0 ≡ k = get_or-range_with_len 0 n k 0 (omega arith) ∙ zero-add k in subst (λ x. p x ≡ false) (sym e) (none k lk))
    (λ _. let e : get_or (below n) s 0 ≡ s = get_or-range_with_len 0 n s 0 l ∙ zero-add s in subst (λ x. p x ≡ true) (sym e) h)

-- no number before it passes
pub none_before : (p : ℕ → Bool) (n t : ℕ) → t < n → t < position_or_len p (below n) → p t ≡ false
none_before p n t l h =
    let f = fails_before_first p (below n) t 0 h in
    let e : get_or (below n) t 0 ≡ t = get_or-range_with_len 0 n t 0 l ∙ zero-add t in
    subst (λ x. p x ≡ false) e f

-- a length is a sum of ones
pub length_sum : {X : Type 0} (xs : List X) → length xs ≡ sum_by (λ x. 1) xs
length_sum [] = refl
length_sum (x ∷ xs) = omega (arith, sum_by-cons (λ x. 1) x xs, length_sum xs)

-- a number stands in a list as a test where it does as a fact
pub has_mem : (xs : List ℕ) (s : ℕ) → Mem s xs → has xs s ≡ true
has_mem [] s m = absurd m
has_mem (x ∷ xs) s (inl e) = rw (eq-eqb s x e)
has_mem (x ∷ xs) s (inr m) = elim (cases_Bool (eqb s x)) [ inl q ↦ rw q | inr q ↦ rw (q, has_mem xs s m) ]

-- and the other way
pub mem_has : (xs : List ℕ) (s : ℕ) → has xs s ≡ true → Mem s xs
mem_has [] s h = absurd (false≢true h)
mem_has (x ∷ xs) s h = elim (cases_Bool (eqb s x)) [ inl q ↦ inl (eqb-true s x q) | inr q ↦ inr (mem_has xs s (let k : has xs s ≡ true = rw q at h in k)) ]

-- what is written back whole is what was written
pub written_back : {X : Type 0} (n : ℕ) (old new : List X) → length new ≡ n → length old ≡ n → take n (new ++ drop (length new) old) ≡ new
written_back n old new a b =
    let rest : drop (length new) old ≡ [] = drop_all (length new) old (omega (arith, a, b)) in
    rw (rest, append-nil new) (take_all n new (omega (arith, a)))
