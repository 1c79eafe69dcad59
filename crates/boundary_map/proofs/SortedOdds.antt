-- Collecting what stands an odd number of times among sorted numbers: one that is there already takes the one before it out.
use Rattle.std.proofs.Common.{◌≡◌, ℕ, zero, suc, ◌+◌, ◌-◌, ◌<◌, ◌≤◌, ◌≢◌, ltb, Bool, true, false, Option, Some, None, List, [], ◌∷◌, ◌++◌, get_or, length, take, eqb, refl, sym, ◌∙◌, ap, subst, arith, inl, inr}
use Rattle.std.specs.List.{slice_get}
use Rattle.std.specs.List.Sorted.{IsSorted, IsStrictlyIncreasing}
use Rattle.std.specs.Option.{IsSome, option_eq, option_to_list}
use Rattle.std.specs.Ordering.{nat_cmp}
use Rattle.std.proofs.Math.Seq.{take-suc}
use Rattle.std.proofs.lemmas.Bool.{cases_Bool, eq-eqb, eqb-true, false≢true, ltb-false, ltb-true}
use Rattle.std.proofs.lemmas.List.{length-append}
use Rattle.std.proofs.lemmas.Map.Keys.{ge_from_not_lt}
use Rattle.std.proofs.lemmas.Option.{slice_get-get_or, slice_get_past, slice_get_read}
use Rattle.boundary_map.proofs.Odds.{odd_member, odds_pop, odds_push}
use Rattle.boundary_map.specs.Odds.{IsOdds}
use Rattle.obd_base.proofs.lists.Members.{mem_append}
use Rattle.obd_base.specs.Lists.{Mem}
use Rattle.region_table.proofs.EdgeWalk.{place_of_mem}

-- whether a number is the last of a list
abbrev pub is_last : List ℕ → ℕ → Bool
is_last xs x = option_eq eqb (slice_get xs (length xs - 1)) (Some x)

-- the last number is read as the last
last_read : (xs : List ℕ) (y x : ℕ) → is_last (xs ++ y ∷ []) x ≡ eqb y x
last_read xs y x = ap (λ o. option_eq eqb o (Some x)) (slice_get_read (xs ++ y ∷ []) (length (xs ++ y ∷ [])) (length (xs ++ y ∷ []) - 1) y refl (omega (arith, length-append xs (y ∷ []))) stands)
  where
    behind : (xs : List ℕ) → get_or (xs ++ y ∷ []) (length xs) y ≡ y
    behind [] = refl
    behind (x ∷ xs) = behind xs

    stands : y ≡ get_or (xs ++ y ∷ []) (length (xs ++ y ∷ []) - 1) y
    stands = let e : length (xs ++ y ∷ []) - 1 ≡ length xs = omega (arith, length-append xs (y ∷ [])) in sym (ap (λ k. get_or (xs ++ y ∷ []) k y) e ∙ behind xs)

-- nothing is last in no list
none_last : (xs : List ℕ) (x : ℕ) → length xs ≡ 0 → is_last xs x ≡ false
none_last xs x e = ap (λ o. option_eq eqb o (Some x)) (slice_get_past xs (length xs - 1) (omega (arith, e)))

-- the greatest of an increasing list is its last
greatest_last : (xs : List ℕ) (x : ℕ) → IsStrictlyIncreasing xs → ((z : ℕ) → Mem z xs → z ≤ x) → Mem x xs → is_last xs x ≡ true
greatest_last xs x ascend most m =
    let (k, l, e) = place_of_mem x xs 0 m in
    let last : k ≡ length xs - 1 = omega (arith, l, at_end k l e) in
    ap (λ o. option_eq eqb o (Some x)) (slice_get-get_or xs (length xs - 1) 0 (omega (arith, l)) ∙ ap Some (ap (λ n. get_or xs n 0) (sym last) ∙ e)) ∙ eq-eqb x x refl
  where
    member : (ys : List ℕ) (k : ℕ) → k < length ys → Mem (get_or ys k 0) ys
    member [] k l = absurd (omega arith)
    member (y ∷ ys) zero l = inl refl
    member (y ∷ ys) (suc k) l = inr (member ys k (omega arith))

    at_end : (k : ℕ) → k < length xs → get_or xs k 0 ≡ x → length xs ≤ k + 1
    at_end k l e = elim (cases_Bool (ltb (k + 1) (length xs))) [
      | inr q ↦ ltb-false (k + 1) (length xs) q
      | inl q ↦ (let more = ltb-true (k + 1) (length xs) q in absurd (omega (arith, ascend k more, e, most (get_or xs (k + 1) 0) (member xs (k + 1) more))))
    ]

module _ (sorted : List ℕ) (rises : IsSorted nat_cmp sorted) where
  -- what comes before a number isn't greater
  no_greater : (i : ℕ) → i < length sorted → (z : ℕ) → Mem z (take i sorted) → z ≤ get_or sorted i 0
  no_greater zero l z m = absurd m
  no_greater (suc i) l z m =
      let next : get_or sorted i 0 ≤ get_or sorted (suc i) 0 = subst (λ n. get_or sorted i 0 ≤ get_or sorted n 0) (omega arith) (ge_from_not_lt (get_or sorted (i + 1) 0) (get_or sorted i 0) (rises i 0 (omega arith) (omega (arith, l)))) in
      elim (mem_append z (take i sorted) (get_or sorted i 0 ∷ []) (subst (λ xs. Mem z xs) (take-suc sorted i 0 (omega (arith, l))) m)) [
        | inl k ↦ omega (arith, no_greater i (omega (arith, l)) z k, next)
        | inr k ↦ elim k [ inl e ↦ omega (arith, e, next) | inr w ↦ absurd w ]
      ]

  module _ (i : ℕ) (l : i < length sorted) (odds : List ℕ) (are : IsOdds (take i sorted) odds) where
    one_more : take (i + 1) sorted ≡ take i sorted ++ get_or sorted i 0 ∷ []
    one_more = let e : i + 1 ≡ suc i = omega arith in ap (λ n. take n sorted) e ∙ take-suc sorted i 0 l

    -- a number that is the last one takes it out
    pub taken_out : (left : List ℕ) (popped : Option ℕ) → odds ≡ left ++ option_to_list popped → (0 < length odds → IsSome popped) → is_last odds (get_or sorted i 0) ≡ true
        → IsOdds (take (i + 1) sorted) left
    taken_out left None parts some last =
        let none : length odds ≡ 0 = elim (cases_Bool (ltb 0 (length odds))) [ inl q ↦ absurd (false≢true (some (ltb-true 0 (length odds) q))) | inr q ↦ omega (arith, ltb-false 0 (length odds) q) ] in
        absurd (false≢true (sym (none_last odds (get_or sorted i 0) none) ∙ last))
    taken_out left (Some y) parts some last =
        let same : y ≡ get_or sorted i 0 = eqb-true y (get_or sorted i 0) (sym (last_read left y (get_or sorted i 0)) ∙ (ap (λ xs. is_last xs (get_or sorted i 0)) (sym parts) ∙ last)) in
        subst (λ ns. IsOdds ns left) (sym one_more)
        (odds_pop (take i sorted) left (get_or sorted i 0) (subst (λ xs. IsOdds (take i sorted) xs) (parts ∙ ap (λ n. left ++ n ∷ []) same) are))

    -- and one that isn't is put on
    pub put_on : is_last odds (get_or sorted i 0) ≡ false → IsOdds (take (i + 1) sorted) (odds ++ get_or sorted i 0 ∷ [])
    put_on other = subst (λ ns. IsOdds ns (odds ++ get_or sorted i 0 ∷ [])) (sym one_more) (odds_push (take i sorted) odds (get_or sorted i 0) are below_it)
      where
        most : (z : ℕ) → Mem z odds → z ≤ get_or sorted i 0
        most z m = no_greater i l z (odd_member (take i sorted) odds are z m)

        below_it : (z : ℕ) → Mem z odds → z < get_or sorted i 0
        below_it z m = omega (arith, most z m, new)
          where
            new : z ≢ get_or sorted i 0
            new e = false≢true (sym other ∙ greatest_last odds (get_or sorted i 0) are.ascend most (subst (λ w. Mem w odds) e m))
