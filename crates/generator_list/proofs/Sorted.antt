-- Lists in lexicographic order, searched by halves.
use Rattle.std.proofs.Common.{◌≡◌, ℕ, zero, suc, ◌+◌, ◌<◌, ◌≤◌, List, [], ◌∷◌, length, get_or, refl, sym, ◌∙◌, ap, subst, arith, inl, inr}
use Rattle.std.proofs.Common.{Ordering, Less, Equal, Greater}
use Rattle.std.specs.Ordering.{nat_cmp, ordering_reverse, ordering_then, is_eq}
use Rattle.std.specs.Cmp.Lexicographic.{slice_cmp}
use Rattle.std.specs.FinMap.{nat_cmp-IsAntisymmetric, slice_cmp-IsAntisymmetric}
use Rattle.std.proofs.lemmas.Bool.{cases_lt, lt-ltb, true≢false}
use Rattle.std.proofs.lemmas.Cmp.{nat_cmp_total, nat_list_cmp_total, tied_itself}
use Rattle.obd_base.specs.Lists.{Mem}
use Rattle.generator_list.specs.Packed.{Before, InOrder, IsNumberOf}
use Rattle.generator_list.proofs.Members.{mem_at}

-- the comparison of two lists of numbers
abbrev pub compare : List ℕ → List ℕ → Ordering
compare = slice_cmp nat_cmp

-- what comes before is less
before_less : (xs ys : List ℕ) → Before xs ys → compare xs ys ≡ Less
before_less [] ys b = absurd b
before_less (x ∷ xs) [] b = absurd b
before_less (x ∷ xs) (y ∷ ys) (inl l) = let e : nat_cmp x y ≡ Less = rw (lt-ltb x y l) refl in ap (λ o. ordering_then o (compare xs ys)) e
before_less (x ∷ xs) (y ∷ ys) (inr p) =
    let e : nat_cmp x y ≡ Equal = ap (λ z. nat_cmp x z) (sym p.0) ∙ tied_itself nat_cmp_total x in
    ap (λ o. ordering_then o (compare xs ys)) e ∙ before_less xs ys p.1

-- an earlier list is less than a later one
sorted : (lists : List (List ℕ)) (i j : ℕ) (d : List ℕ) → InOrder lists → i < j → j < length lists → compare (get_or lists i d) (get_or lists j d) ≡ Less
sorted [] i j d o l m = absurd (omega (arith, m))
sorted (x ∷ xs) i zero d o l m = absurd (omega (arith, l))
sorted (x ∷ xs) zero (suc j) d o l m = before_less x (get_or xs j d) (o.0 (get_or xs j d) (mem_at xs j d (omega (arith, m))))
sorted (x ∷ xs) (suc i) (suc j) d o l m = sorted xs i j d o.1 (omega (arith, l)) (omega (arith, m))

-- no list is less than itself
not_less : (xs : List ℕ) → compare xs xs ≡ Less → ⊥
not_less xs e = true≢false (ap is_eq (sym (tied_itself nat_list_cmp_total xs) ∙ e))

-- only the lists from low to high are left: those before are less than some points, and those after are greater
pub record IsNarrowed (lists : List (List ℕ)) (points : List ℕ) (low high : ℕ) : Type 0 where
  pub ends : low ≤ high
  pub inside : high ≤ length lists
  pub before : (k : ℕ) → k < low → compare (get_or lists k []) points ≡ Less
  pub after : (k : ℕ) → high ≤ k → k < length lists → compare points (get_or lists k []) ≡ Less

-- at first all are
pub narrowed_none : (lists : List (List ℕ)) (points : List ℕ) (count : ℕ) → count ≡ length lists → IsNarrowed lists points 0 count
narrowed_none lists points count all = record { ends = omega arith; inside = omega (arith, all); before = λ k l. absurd (omega (arith, l)); after = λ k l m. absurd (omega (arith, l, m, all)) }

module _ (lists : List (List ℕ)) (points : List ℕ) (low high middle : ℕ) (list : List ℕ) (ordered : InOrder lists) (now : IsNarrowed lists points low high)
    (lm : low ≤ middle) (mh : middle < high) (is : list ≡ get_or lists middle []) where
  -- where the middle one is less
  pub narrowed_up : compare list points ≡ Less → IsNarrowed lists points (middle + 1) high
  narrowed_up less = record {
    ends = omega (arith, mh);
    inside = now.inside;
    before = λ k l. elim (cases_lt k middle) [
      | inl e ↦ nat_list_cmp_total.trans (get_or lists k []) (get_or lists middle []) points (sorted lists k middle [] ordered e (omega (arith, mh, now.inside))) (ap (λ x. compare x points) (sym is) ∙ less)
      | inr g ↦ let e : k ≡ middle = omega (arith, g, l) in ap (λ j. compare (get_or lists j []) points) e ∙ (ap (λ x. compare x points) (sym is) ∙ less)
    ];
    after = now.after;
  }

  -- where it is greater
  pub narrowed_down : compare list points ≡ Greater → IsNarrowed lists points low middle
  narrowed_down greater =
      let turned : compare points (get_or lists middle []) ≡ Less = ap (compare points) (sym is) ∙ (nat_list_cmp_total.antisymm points list ∙ ap ordering_reverse greater) in
      record {
        ends = lm;
        inside = omega (arith, mh, now.inside);
        before = now.before;
        after = λ k l m. elim (cases_lt middle k) [
          | inl e ↦ nat_list_cmp_total.trans points (get_or lists middle []) (get_or lists k []) turned (sorted lists middle k [] ordered e m)
          | inr g ↦ let e : k ≡ middle = omega (arith, g, l) in ap (λ j. compare points (get_or lists j [])) e ∙ turned
        ];
      }

  -- where it is the same
  pub narrowed_here : compare list points ≡ Equal → IsNumberOf lists middle points
  narrowed_here same =
      record { inside = omega (arith, mh, now.inside); here = sym is ∙ slice_cmp-IsAntisymmetric nat_cmp-IsAntisymmetric list points same }

place_of : (xs : List (List ℕ)) (x : List ℕ) → Mem x xs → (k : ℕ) × (k < length xs) × (get_or xs k [] ≡ x)
place_of [] x m = absurd m
place_of (y ∷ ys) x (inl e) = (0, omega arith, sym e)
place_of (y ∷ ys) x (inr m) = let (k, l, e) = place_of ys x m in (suc k, omega (arith, l), e)

-- where none is left the points are no list's
pub narrowed_out : (lists : List (List ℕ)) (points : List ℕ) (low high : ℕ) → IsNarrowed lists points low high → high ≤ low → Mem points lists → ⊥
narrowed_out lists points low high now out m =
    let (k, l, e) = place_of lists points m in
    elim (cases_lt k low) [
      | inl b ↦ not_less points (ap (λ x. compare x points) (sym e) ∙ now.before k b)
      | inr a ↦ not_less points (ap (compare points) (sym e) ∙ now.after k (omega (arith, a, out)) l)
    ]

-- a list with a number is one of them
pub number_mem : (lists : List (List ℕ)) (k : ℕ) (points : List ℕ) → IsNumberOf lists k points → Mem points lists
number_mem lists k points is = subst (λ x. Mem x lists) is.here (mem_at lists k [] is.inside)
