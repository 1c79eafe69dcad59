-- One step of each loop over arcs, points and pieces.
use Rattle.std.proofs.Common.{◌≡◌, ℕ, zero, suc, ◌+◌, ◌*◌, ◌^◌, ◌%◌, ◌<◌, ◌≤◌, inl, inr, Bool, true, false, cond, eqb, ltb, not, ◌&&◌, List, [], ◌∷◌, ◌++◌, filter, get_or, length, map, refl, sym, ◌∙◌, ap, ap₂, arith}
use Rattle.std.specs.List.{count_by, list_all, position_or_len}
use Rattle.std.proofs.lemmas.Bool.{cases_Bool, cases_lt, eq-eqb, false≢true, le-ltb, lt-ltb, ne_eqb}
use Rattle.std.proofs.lemmas.List.{append-nil, map-append}
use Rattle.std.proofs.lemmas.List.Elements.{filter-append}
use Rattle.std.proofs.lemmas.List.Folds.{list_all-append}
use Rattle.std.proofs.lemmas.List.FromFn.{length-range_with_len}
use Rattle.boundary_map.proofs.LedTo.{none_passes}
use Rattle.boundary_map.proofs.PartNumbers.{doubled_is}
use Rattle.boundary_map.specs.Sets.{doubled}
use Rattle.drawing.proofs.Lists.{first_is}
use Rattle.obd_base.proofs.lists.Below.{all_below, below_push, bit, count_suc}
use Rattle.obd_base.specs.Lists.{below}

-- all numbers below one more pass
pub all_push : (p : ℕ → Bool) (k n : ℕ) → n ≡ k + 1 → list_all p (below k) ≡ true → p k ≡ true → list_all p (below n) ≡ true
all_push p k n e h q =
    let s : n ≡ suc k = omega (arith, e) in
    ap (λ m. list_all p (below m)) s ∙ (ap (list_all p) (below_push k) ∙ (list_all-append p (below k) (k ∷ []) ∙ and_both (list_all p (below k)) (p k) h q))
  where
    and_both : (a b : Bool) → a ≡ true → b ≡ true → (a && (b && true)) ≡ true
    and_both a b ea eb = rw (ea, eb) refl

-- one of them doesn't
pub all_not : (p : ℕ → Bool) (n k : ℕ) → k < n → p k ≡ false → list_all p (below n) ≡ false
all_not p n k l f = elim (cases_Bool (list_all p (below n))) [
  | inr q ↦ q
  | inl q ↦ absurd (false≢true (sym f ∙ all_below p n q k l))
]

-- what passes below one more
pub pick_yes : (p : ℕ → Bool) (k n : ℕ) → n ≡ k + 1 → p k ≡ true → filter p (below n) ≡ filter p (below k) ++ k ∷ []
pick_yes p k n e q =
    let s : n ≡ suc k = omega (arith, e) in
    let one : filter p (k ∷ []) ≡ k ∷ [] = rw q refl in
    ap (λ m. filter p (below m)) s ∙ (ap (filter p) (below_push k) ∙ (filter-append p (below k) (k ∷ []) ∙ ap (λ zs. filter p (below k) ++ zs) one))

-- where the last one doesn't pass
pub pick_no : (p : ℕ → Bool) (k n : ℕ) → n ≡ k + 1 → p k ≡ false → filter p (below n) ≡ filter p (below k)
pick_no p k n e q =
    let s : n ≡ suc k = omega (arith, e) in
    let one : filter p (k ∷ []) ≡ [] = rw q refl in
    ap (λ m. filter p (below m)) s ∙ (ap (filter p) (below_push k) ∙ (filter-append p (below k) (k ∷ []) ∙ (ap (λ zs. filter p (below k) ++ zs) one ∙ append-nil (filter p (below k)))))

-- the images of one number more
pub map_push : {A : Type 0} (f : ℕ → A) (k n : ℕ) (xs : List A) (x : A) → n ≡ k + 1 → xs ≡ map f (below k) → x ≡ f k → xs ++ x ∷ [] ≡ map f (below n)
map_push f k n xs x e is here =
    let s : n ≡ suc k = omega (arith, e) in
    ap₂ (λ us u. us ++ u ∷ []) is here ∙ sym (ap (λ m. map f (below m)) s ∙ (ap (map f) (below_push k) ∙ map-append f (below k) (k ∷ [])))

-- the first number that passes, with another in its place where none does
pub first_found : (p : ℕ → Bool) (n k own : ℕ) → k < n → ((j : ℕ) → j < k → p j ≡ false) → p k ≡ true
    → k ≡ cond (ltb (position_or_len p (below n)) (length (below n))) (position_or_len p (below n)) own
first_found p n k own l before here =
    let first = first_is p n k l here before in
    let m = length-range_with_len 0 n in
    let within : ltb (position_or_len p (below n)) (length (below n)) ≡ true = lt-ltb _ _ (omega (arith, first, m)) in
    rw within (sym first)

-- where none passes
pub none_found : (p : ℕ → Bool) (n own : ℕ) → ((j : ℕ) → j < n → p j ≡ false) → own ≡ cond (ltb (position_or_len p (below n)) (length (below n))) (position_or_len p (below n)) own
none_found p n own none =
    let first = none_passes p n none in
    let m = length-range_with_len 0 n in
    let past : ltb (position_or_len p (below n)) (length (below n)) ≡ false = le-ltb _ _ (omega (arith, first, m)) in
    rw past refl

-- one number more that doesn't pass
pub none_push : (p : ℕ → Bool) (k n : ℕ) → n ≡ k + 1 → ((j : ℕ) → j < k → p j ≡ false) → p k ≡ false → (j : ℕ) → j < n → p j ≡ false
none_push p k n e before here j l = elim (cases_lt j k) [
  | inl q ↦ before j q
  | inr q ↦ (let same : j ≡ k = omega (arith, q, l, e) in ap p same ∙ here)
]

-- the points moved on some arcs
pub record IsMoved (y x : List ℕ) (arc moved : ℕ) : Type 0 where
  pub value : moved ≡ 2 * count_by (λ a. not (eqb (get_or y a 0) (get_or x a 0))) (below arc)
  pub most : moved ≤ arc + arc

-- doubling doesn't fall
pub doubled_rises : (m n : ℕ) → m ≤ n → doubled m ≤ doubled n
doubled_rises zero zero l = omega arith
doubled_rises zero (suc n) l = omega (arith, doubled_rises zero n (omega arith))
doubled_rises (suc m) zero l = absurd (omega arith)
doubled_rises (suc m) (suc n) l = omega (arith, doubled_rises m n (omega arith))

-- so the number of sets is small
pub doubled_small : (m : ℕ) → m ≤ 16 → doubled m ≤ 65536
doubled_small m l = doubled_rises m 16 l

-- as it is computed by a shift
pub shifted : (m : ℕ) → m ≤ 16 → 1 * 2 ^ m % 4294967296 ≡ doubled m
shifted m l = omega (arith, doubled_is m, doubled_small m l)

-- one arc more
pub moved_yes : (y x : List ℕ) (arc moved n m : ℕ) → IsMoved y x arc moved → (get_or y arc 0 ≡ get_or x arc 0 → ⊥) → n ≡ arc + 1 → m ≡ moved + 2 → IsMoved y x n m
moved_yes y x arc moved n m so_far ne en em =
    let p : ℕ → Bool = λ a. not (eqb (get_or y a 0) (get_or x a 0)) in
    let s : n ≡ suc arc = omega (arith, en) in
    let q : p arc ≡ true = ap not (ne_eqb (get_or y arc 0) (get_or x arc 0) ne) in
    let c : count_by p (below n) ≡ count_by p (below arc) + 1 = ap (λ k. count_by p (below k)) s ∙ (count_suc p arc ∙ ap (λ b. count_by p (below arc) + bit b) q) in
    record { value = omega (arith, c, em, so_far.value); most = omega (arith, em, en, so_far.most) }

-- one arc more, where the points are the same
pub moved_no : (y x : List ℕ) (arc moved n m : ℕ) → IsMoved y x arc moved → get_or y arc 0 ≡ get_or x arc 0 → n ≡ arc + 1 → m ≡ moved → IsMoved y x n m
moved_no y x arc moved n m so_far same en em =
    let p : ℕ → Bool = λ a. not (eqb (get_or y a 0) (get_or x a 0)) in
    let s : n ≡ suc arc = omega (arith, en) in
    let q : p arc ≡ false = ap not (eq-eqb (get_or y arc 0) (get_or x arc 0) same) in
    let c : count_by p (below n) ≡ count_by p (below arc) + 0 = ap (λ k. count_by p (below k)) s ∙ (count_suc p arc ∙ ap (λ b. count_by p (below arc) + bit b) q) in
    record { value = omega (arith, c, em, so_far.value); most = omega (arith, em, en, so_far.most) }
