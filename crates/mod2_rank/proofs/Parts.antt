-- The parts of a list of columns, tied to spans and independence of the tests.
use Rattle.std.proofs.Common.{◌≡◌, ℕ, suc, true, ◌||◌, not, List, [], ◌∷◌, length, refl, sym, ◌∙◌, ap, subst, inl, inr}
use Rattle.std.specs.List.{list_all}
use Rattle.std.proofs.lemmas.Bool.{or_left, or_right, and_parts, cases_Bool, false≢true}
use Rattle.obd_base.specs.Lists.{has, parts, Mem}
use Rattle.mod2_rank.specs.Linear.{sum_of, same_list, is_sum_of_part, is_empty, is_independent, IsRank, Ascends}
use Rattle.obd_base.proofs.lists.Members.{mem_append, mem_left, mem_right, mem_map}
use Rattle.mod2_rank.specs.Rows.{Rows, none, plus}
use Rattle.mod2_rank.proofs.Vectors.{plus_twice, plus_comm, same_from_plus, plus_itself}
use Rattle.mod2_rank.proofs.Spans.{InSpan, AllIn, all_in_more, all_in_itself, all_in_within}
use Rattle.mod2_rank.specs.Ascending.{AllAscend}
use Rattle.mod2_rank.proofs.Exchange.{Indep, same_size}
use Rattle.mod2_rank.proofs.Ascending.{sum_up, tests, sum_of_is, sum_of_ascends, same_ascending}
use Rattle.mod2_rank.proofs.Members.{mem_map_in, any_mem, mem_any, all_mem, all_from_mem, contains_mem, same_list_true, same_list_itself}

-- a part's sum is in the span
pub part_in_span : (s cs : List (List ℕ)) → Mem s (parts cs) → InSpan (tests cs) (sum_up (tests s))
part_in_span s [] (inl e) = rw e refl
part_in_span s [] (inr m) = absurd m
part_in_span s (c ∷ cs) m = elim (mem_append s (parts cs) _ m) [
  | inl k ↦ inl (part_in_span s cs k)
  | inr k ↦
      let (t, j, e) = mem_map (λ w. c ∷ w) s (parts cs) k in
      subst (λ w. InSpan (tests (c ∷ cs)) (sum_up (tests w))) (sym e)
      (inr (rw (plus_comm (has c) (sum_up (tests t)), plus_twice (sum_up (tests t)) (has c)) (part_in_span t cs j)))
]

-- and each member of the span is the sum of a part
pub span_has_part : (cs : List (List ℕ)) (v : Rows) → InSpan (tests cs) v → (s : List (List ℕ)) × Mem s (parts cs) × (v ≡ sum_up (tests s))
span_has_part [] v i = ([], inl refl, i)
span_has_part (c ∷ cs) v (inl i) = let (s, m, e) = span_has_part cs v i in (s, mem_left s (parts cs) _ m, e)
span_has_part (c ∷ cs) v (inr i) =
    let (s, m, e) = span_has_part cs (plus v (has c)) i in (
      c ∷ s,
      mem_right (c ∷ s) (parts cs) _ (mem_map_in (λ w. c ∷ w) s (parts cs) m),
      sym (plus_twice v (has c)) ∙ (ap (λ (w : Rows). plus w (has c)) e ∙ plus_comm (sum_up (tests s)) (has c)),
    )

-- the columns of a part ascend
pub part_ascends : (rows : ℕ) (s cs : List (List ℕ)) → Mem s (parts cs) → AllAscend rows cs → AllAscend rows s
part_ascends rows s [] (inl e) a = rw e tt
part_ascends rows s [] (inr m) a = absurd m
part_ascends rows s (c ∷ cs) m a = elim (mem_append s (parts cs) _ m) [
  | inl k ↦ part_ascends rows s cs k a.1
  | inr k ↦
      let (t, j, e) = mem_map (λ w. c ∷ w) s (parts cs) k in
      subst (λ w. AllAscend rows w) (sym e) (a.0, part_ascends rows t cs j a.1)
]

-- 'is the sum of a part' says that the test is in the span
pub sum_of_part_in_span : (rows : ℕ) (cs : List (List ℕ)) (c : List ℕ) → AllAscend rows cs → is_sum_of_part rows cs c ≡ true → InSpan (tests cs) (has c)
sum_of_part_in_span rows cs c a h =
    let (s, m, q) = mem_any (λ s. same_list (sum_of rows s) c) (parts cs) h in
    let e : sum_up (tests s) ≡ has c = sym (sum_of_is rows s (part_ascends rows s cs m a)) ∙ ap has (same_list_true (sum_of rows s) c q) in
    subst (λ (w : Rows). InSpan (tests cs) w) e (part_in_span s cs m)

-- what is in the span is the sum of a part
pub span_is_sum_of_part : (rows : ℕ) (cs : List (List ℕ)) (c : List ℕ) → AllAscend rows cs → Ascends 0 rows c → InSpan (tests cs) (has c) → is_sum_of_part rows cs c ≡ true
span_is_sum_of_part rows cs c a b i =
    let (s, m, e) = span_has_part cs (has c) i in
    let q : sum_of rows s ≡ c = same_ascending (sum_of rows s) c 0 rows (sum_of_ascends rows s) b
    (λ k. ap (λ (w : Rows). w k) (sum_of_is rows s (part_ascends rows s cs m a) ∙ sym e)) in
    any_mem (λ s. same_list (sum_of rows s) c) s (parts cs) m (subst (λ w. same_list w c ≡ true) (sym q) (same_list_itself c))

-- the sum of some columns is empty exactly where the test is
pub sum_empty : (rows : ℕ) (s : List (List ℕ)) → AllAscend rows s → sum_up (tests s) ≡ none → sum_of rows s ≡ []
sum_empty rows s a e = same_ascending (sum_of rows s) [] 0 rows (sum_of_ascends rows s) tt (λ k. ap (λ (w : Rows). w k) (sum_of_is rows s a ∙ e))

-- independent columns have no part but the empty one with an empty sum
no_empty_part : (s cs : List (List ℕ)) → Mem s (parts cs) → Indep (tests cs) → sum_up (tests s) ≡ none → is_empty s ≡ true
no_empty_part s [] (inl e) f h = rw e refl
no_empty_part s [] (inr m) f h = absurd m
no_empty_part s (c ∷ cs) m f h = elim (mem_append s (parts cs) _ m) [
  | inl k ↦ no_empty_part s cs k f.1 h
  | inr k ↦
      let (t, j, e) = mem_map (λ w. c ∷ w) s (parts cs) k in
      let q : plus (has c) (sum_up (tests t)) ≡ none = subst (λ w. sum_up (tests w) ≡ none) e h in
      absurd (f.0 (subst (λ (w : Rows). InSpan (tests cs) w) (sym (same_from_plus (has c) (sum_up (tests t)) q)) (part_in_span t cs j)))
]

-- a list that tests empty is empty
pub empty_list : (xs : List ℕ) → is_empty xs ≡ true → xs ≡ []
empty_list [] h = refl
empty_list (x ∷ xs) h = absurd (false≢true h)

-- 'no nonempty part has the empty sum' is independence of the tests
pub independent_from : (rows : ℕ) (cs : List (List ℕ)) → AllAscend rows cs → Indep (tests cs) → is_independent rows cs ≡ true
independent_from rows cs a f = all_from_mem (λ s. is_empty s || not (is_empty (sum_of rows s))) (parts cs)
    (λ s m. elim (cases_Bool (is_empty (sum_of rows s))) [
      | inr q ↦ or_right (is_empty s) (not (is_empty (sum_of rows s))) (rw q refl)
      | inl q ↦ or_left (is_empty s) (not (is_empty (sum_of rows s)))
          (no_empty_part s cs m f (sym (sum_of_is rows s (part_ascends rows s cs m a)) ∙ ap has (empty_list (sum_of rows s) q)))
    ])

-- columns of which no part but the empty one has an empty sum are independent
pub independent_parts : (rows : ℕ) (cs : List (List ℕ)) → AllAscend rows cs → ((s : List (List ℕ)) → Mem s (parts cs) → (is_empty s || not (is_empty (sum_of rows s))) ≡ true) → Indep (tests cs)
independent_parts rows [] a h = tt
independent_parts rows (c ∷ cs) a h = (
  λ i.
      let (s, m, e) = span_has_part cs (has c) i in
      let z : sum_of rows (c ∷ s) ≡ [] = sum_empty rows (c ∷ s) (a.0, part_ascends rows s cs m a.1) (rw (sym e) (plus_itself (has c))) in
      let q : not (is_empty (sum_of rows (c ∷ s))) ≡ true = h (c ∷ s) (mem_right (c ∷ s) (parts cs) _ (mem_map_in (λ w. c ∷ w) s (parts cs) m)) in
      false≢true (subst (λ w. not (is_empty w) ≡ true) z q),
  independent_parts rows cs a.1 (λ s m. h s (mem_left s (parts cs) _ m)),
)

-- the test of independence says that they are
pub independent_to : (rows : ℕ) (cs : List (List ℕ)) → AllAscend rows cs → is_independent rows cs ≡ true → Indep (tests cs)
independent_to rows cs a h = independent_parts rows cs a (λ s m. all_mem (λ s. is_empty s || not (is_empty (sum_of rows s))) s (parts cs) h m)

-- a part lies in the span of the columns
pub part_all_in : (s cs : List (List ℕ)) → Mem s (parts cs) → AllIn (tests cs) (tests s)
part_all_in s [] (inl e) = rw e tt
part_all_in s [] (inr m) = absurd m
part_all_in s (c ∷ cs) m = elim (mem_append s (parts cs) _ m) [
  | inl k ↦ all_in_more (tests cs) (tests s) (has c) (part_all_in s cs k)
  | inr k ↦
      let (t, j, e) = mem_map (λ w. c ∷ w) s (parts cs) k in
      subst (λ w. AllIn (tests (c ∷ cs)) (tests w)) (sym e)
      ((all_in_itself (tests (c ∷ cs))).0, all_in_more (tests cs) (tests t) (has c) (part_all_in t cs j))
]

-- each column of a list is the sum of a part
pub spanning_all_in : (rows : ℕ) (s cs : List (List ℕ)) → AllAscend rows s → list_all (is_sum_of_part rows s) cs ≡ true → AllIn (tests s) (tests cs)
spanning_all_in rows s [] a h = tt
spanning_all_in rows s (c ∷ cs) a h = let (p, q) = and_parts _ _ h in (sum_of_part_in_span rows s c a p, spanning_all_in rows s cs a q)

-- columns that span pass the test of spanning
pub all_in_spanning : (rows : ℕ) (s cs : List (List ℕ)) → AllAscend rows s → AllAscend rows cs → AllIn (tests s) (tests cs) → list_all (is_sum_of_part rows s) cs ≡ true
all_in_spanning rows s cs a b i = all_from_mem (is_sum_of_part rows s) cs (λ c m. at cs c b i m)
  where
    at : (cs : List (List ℕ)) (c : List ℕ) → AllAscend rows cs → AllIn (tests s) (tests cs) → Mem c cs → is_sum_of_part rows s c ≡ true
    at [] c b i m = absurd m
    at (d ∷ cs) c b i (inl e) = rw e (span_is_sum_of_part rows s d a b.0 i.0)
    at (d ∷ cs) c b i (inr m) = at cs c b.1 i.1 m

-- there are as many tests as columns
pub length_tests : (cs : List (List ℕ)) → length (tests cs) ≡ length cs
length_tests [] = refl
length_tests (c ∷ cs) = ap suc (length_tests cs)

-- any independent vectors that have the span of the columns are as many as the rank
pub rank_is : (rows : ℕ) (cs : List (List ℕ)) (r : ℕ) (b : List Rows) → AllAscend rows cs → Indep b → AllIn (tests cs) b → AllIn b (tests cs) → IsRank rows cs r → length b ≡ r
rank_is rows cs r b a f i k h =
    let m = contains_mem h.choice (parts cs) h.chosen in
    let c = part_ascends rows h.choice cs m a in
    let spans = spanning_all_in rows h.choice cs c h.spanning in
    let q : length b ≡ length (tests h.choice) = same_size b (tests h.choice) f (independent_to rows h.choice c h.independent)
    (all_in_within (tests h.choice) (tests cs) b spans i)
    (all_in_within b (tests cs) (tests h.choice) k (part_all_in h.choice cs m)) in
    q ∙ (length_tests h.choice ∙ h.count)

-- any two choices that make a rank have one size
pub rank_unique : (rows : ℕ) (cs : List (List ℕ)) (r q : ℕ) → AllAscend rows cs → IsRank rows cs r → IsRank rows cs q → r ≡ q
rank_unique rows cs r q a h k =
    let m = contains_mem h.choice (parts cs) h.chosen in
    let c = part_ascends rows h.choice cs m a in
    sym h.count ∙ (sym (length_tests h.choice) ∙ rank_is rows cs q (tests h.choice) a (independent_to rows h.choice c h.independent)
    (part_all_in h.choice cs m) (spanning_all_in rows h.choice cs c h.spanning) k)
