-- Lists that hold the same members, and what a test picks of a list.
use Rattle.std.proofs.Common.{◌≡◌, ℕ, ◌≤◌, ◌≢◌, Bool, true, false, cond, eqb, List, [], ◌∷◌, ◌++◌, filter, map, refl, sym, ◌∙◌, ap, subst, arith, inl, inr}
use Rattle.std.specs.List.{sum_by}
use Rattle.std.proofs.lemmas.Bool.{cases_Bool, eq-eqb, ne_eqb}
use Rattle.std.proofs.lemmas.List.Sums.{sum_by-append, sum_by-cons}
use Rattle.drawing.proofs.Lists.{mem_has}
use Rattle.empty_domains.proofs.ListFacts.{filter_same}
use Rattle.obd_base.proofs.lists.Members.{mem_append, mem_left, mem_map, mem_right, mem_to_map, split}
use Rattle.obd_base.proofs.lists.Parts.{mem_parts}
use Rattle.obd_base.specs.Lists.{Mem, Once, has, parts}

-- two tests that imply each other agree
pub same_test : (a b : Bool) → (a ≡ true → b ≡ true) → (b ≡ true → a ≡ true) → a ≡ b
same_test true b h k = sym (h refl)
same_test false true h k = k refl
same_test false false h k = refl

module _ (f : ℕ → ℕ) where
  -- another member stays when one is taken out
  stays : (z x : ℕ) (a b : List ℕ) → Mem z (a ++ (x ∷ b)) → (z ≢ x) → Mem z (a ++ b)
  stays z x a b m ne = elim (mem_append z a (x ∷ b) m) [
    | inl k ↦ mem_left z a b k
    | inr k ↦ elim k [ inl e ↦ absurd (ne e) | inr j ↦ mem_right z a b j ]
  ]

  -- a list that holds no member twice sums to no more than one that holds all its members
  sum_within : (xs ys : List ℕ) → Once xs → ((z : ℕ) → Mem z xs → Mem z ys) → sum_by f xs ≤ sum_by f ys
  sum_within [] ys o h = omega arith
  sum_within (x ∷ xs) ys o h =
      let (a, b, e) = split x ys (h x (inl refl)) in
      let less : sum_by f xs ≤ sum_by f (a ++ b) = sum_within xs (a ++ b) o.1 (λ z m. stays z x a b (subst (λ zs. Mem z zs) e (h z (inr m))) (λ q. o.0 (subst (λ w. Mem w xs) q m))) in
      let l : sum_by f ys ≡ sum_by f (a ++ (x ∷ b)) = ap (sum_by f) e in
      omega (arith, less, l, sum_by-append f a (x ∷ b), sum_by-cons f x b, sum_by-append f a b, sum_by-cons f x xs)

  -- so two such lists with the same members have one sum
  pub sum_same_members : (xs ys : List ℕ) → Once xs → Once ys → ((z : ℕ) → Mem z xs → Mem z ys) → ((z : ℕ) → Mem z ys → Mem z xs) → sum_by f xs ≡ sum_by f ys
  sum_same_members xs ys o q h k = omega (arith, sum_within xs ys o h, sum_within ys xs q k)

-- a map over a list whose members it does not confuse repeats none
pub once_by_members : {A B : Type 0} (f : A → B) (xs : List A) → ((x y : A) → Mem x xs → Mem y xs → f x ≡ f y → x ≡ y) → Once xs → Once (map f xs)
once_by_members f [] h o = tt
once_by_members f (x ∷ xs) h o = (
  λ m.
      let (y, k, e) = mem_map f (f x) xs m in
      o.0 (subst (λ w. Mem w xs) (sym (h x y (inl refl) (inr k) e)) k),
  once_by_members f xs (λ a b m n. h a b (inr m) (inr n)) o.1,
)

-- what a test picks is a part
pub filter_part : (p : ℕ → Bool) (xs : List ℕ) → Mem (filter p xs) (parts xs)
filter_part p [] = inl refl
filter_part p (x ∷ xs) = go (p x) refl (filter_part p xs)
  where
    go : (b : Bool) → p x ≡ b → Mem (filter p xs) (parts xs) → Mem (cond b (x ∷ filter p xs) (filter p xs)) (parts (x ∷ xs))
    go true e ih = mem_right _ (parts xs) _ (mem_to_map (λ w. x ∷ w) (filter p xs) (parts xs) ih)
    go false e ih = mem_left _ (parts xs) _ ih

-- a part is what the test of its members picks
pub part_filter : (s xs : List ℕ) → Once xs → Mem s (parts xs) → s ≡ filter (has s) xs
part_filter s [] o (inl e) = e
part_filter s [] o (inr i) = absurd i
part_filter s (x ∷ xs) o i = elim (mem_append s (parts xs) _ i) [
  | inl j ↦ (
      let out : has s x ≡ false = elim (cases_Bool (has s x)) [ inl h ↦ absurd (o.0 (mem_parts x s xs j (mem_has s x h))) | inr h ↦ h ] in
      rw out (part_filter s xs o.1 j))
  | inr j ↦ (let (t, k, e) = mem_map (λ w. x ∷ w) s (parts xs) j in added t e (part_filter t xs o.1 k))
]
  where
    added : (t : List ℕ) → (s ≡ x ∷ t) → t ≡ filter (has t) xs → s ≡ filter (has s) (x ∷ xs)
    added t e ih =
        let same : filter (has t) xs ≡ filter (has (x ∷ t)) xs
        = filter_same (has t) (has (x ∷ t)) xs (λ z m. let n : eqb z x ≡ false = ne_eqb z x (λ q. o.0 (subst (λ w. Mem w xs) q m)) in rw n refl) in
        let one : x ∷ t ≡ x ∷ filter (has (x ∷ t)) xs = ap (λ w. x ∷ w) (ih ∙ same) in
        let head : has (x ∷ t) x ≡ true = rw (eq-eqb x x refl) refl in
        let two : x ∷ t ≡ filter (has (x ∷ t)) (x ∷ xs) = rw head one in
        subst (λ w. w ≡ filter (has w) (x ∷ xs)) (sym e) two
