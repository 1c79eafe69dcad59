-- The pivots of the elimination are the pivot columns, as many as the rank.
use Rattle.std.proofs.Common.{◌≡◌, ℕ, zero, suc, ◌+◌, ◌<◌, ◌≤◌, Bool, true, false, cond, List, [], ◌∷◌, ◌++◌, length, map, take, refl, sym, ◌∙◌, ap, subst, arith, ◌⊎◌, inl, inr, filter}
use Rattle.std.specs.List.{range_with_len}
use Rattle.std.proofs.lemmas.List.{length-append, append-nil, length-map}
use Rattle.std.proofs.lemmas.List.Elements.{filter-append}
use Rattle.std.proofs.lemmas.Bool.{not-false}
use Rattle.obd_base.specs.Lists.{below, has, parts, Mem}
use Rattle.mod2_rank.specs.Linear.{column_at, columns_at, is_pivot, pivots, pivot_row, is_sum_of_part, IsRank}
use Rattle.obd_base.proofs.lists.Members.{mem_append, mem_left, mem_right, filter_mem}
use Rattle.obd_base.proofs.lists.Below.{range_push, range_mem}
use Rattle.mod2_rank.specs.Rows.{Rows}
use Rattle.mod2_rank.proofs.Spans.{InSpan, AllIn, span_within, all_in_within, all_in_itself, span_first}
use Rattle.mod2_rank.specs.Ascending.{AllAscend}
use Rattle.mod2_rank.proofs.Exchange.{Indep, exchange}
use Rattle.mod2_rank.proofs.Totals.{first_columns}
use Rattle.mod2_rank.proofs.Echelon.{Lead, vectors, Echelon, left_is_new}
use Rattle.mod2_rank.proofs.Members.{mem_map_in, mem_contains}
use Rattle.mod2_rank.proofs.Ascending.{tests}
use Rattle.mod2_rank.proofs.Parts.{rank_is, independent_from, all_in_spanning, part_ascends, length_tests, sum_of_part_in_span}
use Rattle.mod2_rank.proofs.Columns.{column_test, same_first, same_all, new_is_pivot, old_is_no_pivot, pivot_row_is, take_ascends}
use Rattle.mod2_rank.proofs.PureRun.{Pivot, kept, left_of, run}
use Rattle.mod2_rank.proofs.Built.{AllBuilt, Built, OnWay, Settled, leads, on_way_first, left_settled}
use Rattle.mod2_rank.proofs.NextPivot.{next_built, run_built}

-- the columns of the pivots
abbrev pub columns_of : List Pivot → List ℕ
columns_of [] = []
columns_of (p ∷ ps) = p.column ∷ columns_of ps

-- their rows
abbrev pub rows_of : List Pivot → List ℕ
rows_of [] = []
rows_of (p ∷ ps) = p.row ∷ rows_of ps

-- the other way round
abbrev pub backwards : {A : Type 0} → List A → List A
backwards [] = []
backwards (x ∷ xs) = backwards xs ++ (x ∷ [])

module _ {A : Type 0} where
  -- a member of the list turned round is one of the list
  pub mem_backwards : (x : A) (xs : List A) → Mem x (backwards xs) → Mem x xs
  mem_backwards x [] m = m
  mem_backwards x (y ∷ xs) m = elim (mem_append x (backwards xs) (y ∷ []) m) [
    | inl k ↦ inr (mem_backwards x xs k)
    | inr k ↦ elim k [ inl e ↦ inl e | inr j ↦ absurd j ]
  ]

  -- and the other way round
  pub backwards_mem : (x : A) (xs : List A) → Mem x xs → Mem x (backwards xs)
  backwards_mem x [] m = m
  backwards_mem x (y ∷ xs) (inl e) = mem_right x (backwards xs) (y ∷ []) (inl e)
  backwards_mem x (y ∷ xs) (inr m) = mem_left x (backwards xs) (y ∷ []) (backwards_mem x xs m)

  -- it is as long
  pub length_backwards : (xs : List A) → length (backwards xs) ≡ length xs
  length_backwards [] = refl
  length_backwards (x ∷ xs) = let l : length (backwards xs ++ (x ∷ [])) ≡ length (backwards xs) + 1 = length-append (backwards xs) (x ∷ []) in omega (arith, l, length_backwards xs)

-- the invariant of a loop over the columns: the pivots of the first j columns, the last one first
pub record Progress (rows : ℕ) (cs : List (List ℕ)) (j : ℕ) (ps : List Pivot) : Type 0 where
  pub built : Built rows (column_test cs) j ps
  pub columns_are : backwards (columns_of ps) ≡ filter (is_pivot rows cs) (below j)

-- before the first column
pub progress_none : (rows : ℕ) (cs : List (List ℕ)) → Progress rows cs 0 []
progress_none rows cs = record { built = record { each = tt; echelon = tt; spans = record { there = tt; back = tt } }; columns_are = refl }

-- a filter of the numbers below the next
filter_last : (p : ℕ → Bool) (j : ℕ) → filter p (below (suc j)) ≡ filter p (below j) ++ filter p (j ∷ [])
filter_last p j = ap (filter p) (range_push 0 j ∙ (let e : 0 + j ≡ j = omega arith in rw e refl)) ∙ filter-append p (below j) (j ∷ [])

-- one column more, whatever way it was reduced: what is left is on its way and no pivot has its least row
pub progress_more : (rows : ℕ) (cs : List (List ℕ)) (j : ℕ) (ps : List Pivot) (v used : List ℕ) → AllAscend rows cs → j < length cs → Progress rows cs j ps
    → OnWay rows (column_test cs) j ps (record { vector = v; used = used }) → Settled ps v → Progress rows cs (suc j) (kept j v used ps)
progress_more rows cs j ps v used a l g w s =
    let n = next_built rows (column_test cs) j ps v used g.built w s in
    record { built = n.built; columns_are = go v n.fate g.columns_are }
  where
    go : (v : List ℕ) → ((v ≡ []) × InSpan (first_columns (column_test cs) j) (column_test cs j)) ⊎ ((InSpan (first_columns (column_test cs) j) (column_test cs j) → ⊥) × ((r : ℕ) × (rest : List ℕ) × (v ≡ r ∷ rest)))
        → backwards (columns_of ps) ≡ filter (is_pivot rows cs) (below j)
        → backwards (columns_of (kept j v used ps)) ≡ filter (is_pivot rows cs) (below (suc j))
    go v (inl (e, i)) h =
        rw (e, filter_last (is_pivot rows cs) j, old_is_no_pivot rows cs j a (omega arith) i) (h ∙ sym (append-nil (filter (is_pivot rows cs) (below j))))
    go v (inr (out, (r, rest, e))) h =
        rw (e, filter_last (is_pivot rows cs) j, new_is_pivot rows cs j a (omega arith) out, h) refl

-- the run of the pure function makes progress
pub run_progress : (rows : ℕ) (cs : List (List ℕ)) → AllAscend rows cs → (j : ℕ) → j ≤ length cs → Progress rows cs j (run rows cs j)
run_progress rows cs a zero l = progress_none rows cs
run_progress rows cs a (suc j) l =
    let g = run_progress rows cs a j (omega arith) in
    let (w, s) = left_settled rows (column_test cs) j (run rows cs j) (record { vector = column_at cs j; used = j ∷ [] }) g.built.each (on_way_first rows cs j (run rows cs j) a) in
    progress_more rows cs j (run rows cs j) (left_of rows cs (run rows cs j) j).vector (left_of rows cs (run rows cs j) j).used a (omega arith) g w s

-- the pivots of the first j columns are at the pivot columns among them
pub columns_are : (rows : ℕ) (cs : List (List ℕ)) (j : ℕ) → AllAscend rows cs → j ≤ length cs → backwards (columns_of (run rows cs j)) ≡ filter (is_pivot rows cs) (below j)
columns_are rows cs j a l = (run_progress rows cs a j l).columns_are

-- each pivot has the row of its column
pub rows_right : (rows : ℕ) (cs : List (List ℕ)) (ps : List Pivot) → AllAscend rows cs → AllBuilt rows (column_test cs) (length cs) ps
    → map (pivot_row rows cs) (columns_of ps) ≡ rows_of ps
rows_right rows cs [] a b = refl
rows_right rows cs (p ∷ ps) a b =
    let l : p.column ≤ length cs = (let e = b.0.early in omega arith) in
    rw (pivot_row_is rows cs p.column p.row a l b.0.pivot, rows_right rows cs ps a b.1) refl

-- reduced columns with different least rows are independent
pub echelon_indep : (ps : List Lead) → Echelon ps → Indep (vectors ps)
echelon_indep [] e = tt
echelon_indep (p ∷ ps) e = (left_is_new ps p.vector p.row e.2 e.0 e.1, echelon_indep ps e.2)

-- as many as the pivots
pub length_leads : (ps : List Pivot) → length (vectors (leads ps)) ≡ length ps
length_leads [] = refl
length_leads (p ∷ ps) = ap suc (length_leads ps)

-- and so are their columns
pub length_columns : (ps : List Pivot) → length (columns_of ps) ≡ length ps
length_columns [] = refl
length_columns (p ∷ ps) = ap suc (length_columns ps)

-- as many pivots as any rank
pub pivots_are_rank : (rows : ℕ) (cs : List (List ℕ)) (r : ℕ) → AllAscend rows cs → IsRank rows cs r → length (pivots rows cs) ≡ r
pivots_are_rank rows cs r a h =
    let b = run_built rows cs a (length cs) in
    let s = same_all cs in
    let q : length (vectors (leads (run rows cs (length cs)))) ≡ r = rank_is rows cs r (vectors (leads (run rows cs (length cs)))) a (echelon_indep _ b.echelon)
    (all_in_within (tests cs) (first_columns (column_test cs) (length cs)) (vectors (leads (run rows cs (length cs)))) s.back b.spans.there)
    (all_in_within (vectors (leads (run rows cs (length cs)))) (first_columns (column_test cs) (length cs)) (tests cs) b.spans.back s.there) h in
    ap length (sym (columns_are rows cs (length cs) a (omega arith))) ∙ (length_backwards (columns_of (run rows cs (length cs))) ∙ (length_columns (run rows cs (length cs)) ∙ (sym (length_leads (run rows cs (length cs))) ∙ q)))

-- columns picked by a test of their numbers are a part
picked : (p : ℕ → Bool) (col : ℕ → List ℕ) (xs : List (List ℕ)) (k : ℕ) → ((i : ℕ) → i < length xs → col (k + i) ≡ column_at xs i)
    → Mem (map col (filter p (range_with_len k (length xs)))) (parts xs)
picked p col [] k h = inl refl
picked p col (c ∷ xs) k h = go (p k) (picked p col xs (k + 1) (λ i l. let e : (k + 1) + i ≡ k + suc i = omega arith in rw e (h (suc i) (omega arith))))
  where
    head : col k ≡ c
    head = let e : k + 0 ≡ k = omega arith in rw e at (h 0 (omega arith))

    go : (b : Bool) → Mem (map col (filter p (range_with_len (k + 1) (length xs)))) (parts xs)
        → Mem (map col (cond b (k ∷ filter p (range_with_len (k + 1) (length xs))) (filter p (range_with_len (k + 1) (length xs))))) (parts (c ∷ xs))
    go true m = mem_right _ (parts xs) _ (rw head (mem_map_in (λ w. c ∷ w) _ (parts xs) m))
    go false m = mem_left _ (parts xs) _ m

-- the columns that pass a test are a part
pub picked_part : (p : ℕ → Bool) (cs : List (List ℕ)) → Mem (columns_at cs (filter p (below (length cs)))) (parts cs)
picked_part p cs = picked p (column_at cs) cs 0 (λ i l. let e : 0 + i ≡ i = omega arith in rw e refl)

-- a column of a list is in its span
mem_tests : (c : List ℕ) (xs : List (List ℕ)) → Mem c xs → InSpan (tests xs) (has c)
mem_tests c [] m = absurd m
mem_tests c (x ∷ xs) (inl e) = rw e (span_first (has x) (tests xs))
mem_tests c (x ∷ xs) (inr m) = inl (mem_tests c xs m)

-- what spans the pivot columns spans the columns
pub pivots_span : (rows : ℕ) (cs : List (List ℕ)) (b : List Rows) → AllAscend rows cs
    → ((k : ℕ) → k < length cs → is_pivot rows cs k ≡ true → InSpan b (column_test cs k))
    → (j : ℕ) → j ≤ length cs → AllIn b (first_columns (column_test cs) j)
pivots_span rows cs b a h zero l = tt
pivots_span rows cs b a h (suc j) l = (one (is_pivot rows cs j) refl (pivots_span rows cs b a h j (omega arith)), pivots_span rows cs b a h j (omega arith))
  where
    one : (t : Bool) → is_pivot rows cs j ≡ t → AllIn b (first_columns (column_test cs) j) → InSpan b (column_test cs j)
    one true e i = h j (omega arith) e
    one false e i = span_within b (first_columns (column_test cs) j) (column_test cs j) i
        (span_within (first_columns (column_test cs) j) (tests (take j cs)) (column_test cs j) (same_first cs j (omega arith)).there
        (sum_of_part_in_span rows (take j cs) (column_at cs j) (take_ascends rows cs j a) (not-false (is_sum_of_part rows (take j cs) (column_at cs j)) e)))

-- as many vectors as independent ones in their span are independent
pub indep_by_count : (ys a b : List Rows) → Indep ys → AllIn (a ++ b) ys → length (a ++ b) ≡ length ys → Indep b
indep_by_count ys a [] f i l = tt
indep_by_count ys a (c ∷ b) f i l = (
  λ h. shorter (exchange (a ++ b) ys f (all_in_within (a ++ b) (a ++ (c ∷ b)) ys (left_out a h) i)),
  indep_by_count ys (a ++ (c ∷ [])) b f (subst (λ w. AllIn w ys) (sym (moved a)) i) (ap length (moved a) ∙ l),
)
  where
    moved : (a : List Rows) → (a ++ (c ∷ [])) ++ b ≡ a ++ (c ∷ b)
    moved [] = refl
    moved (x ∷ a) = ap (λ w. x ∷ w) (moved a)

    more : (x : Rows) (a xs : List Rows) → AllIn a xs → AllIn (x ∷ a) xs
    more x a [] k = tt
    more x a (y ∷ xs) k = (inl k.0, more x a xs k.1)

    left_out : (a : List Rows) → InSpan b c → AllIn (a ++ b) (a ++ (c ∷ b))
    left_out [] h = (h, all_in_itself b)
    left_out (x ∷ a) h = (span_first x (a ++ b), more x (a ++ b) (a ++ (c ∷ b)) (left_out a h))

    shorter : length ys ≤ length (a ++ b) → ⊥
    shorter k = let m : length (a ++ (c ∷ b)) ≡ length a + suc (length b) = length-append a (c ∷ b) in let n : length (a ++ b) ≡ length a + length b = length-append a b in omega arith

-- a rank exists: the pivot columns are such a choice
pub rank_of_pivots : (rows : ℕ) (cs : List (List ℕ)) → AllAscend rows cs → IsRank rows cs (length (pivots rows cs))
rank_of_pivots rows cs a =
    let choice : List (List ℕ) = columns_at cs (pivots rows cs) in
    let m : Mem (columns_at cs (pivots rows cs)) (parts cs) = picked_part (is_pivot rows cs) cs in
    let c : AllAscend rows (columns_at cs (pivots rows cs)) = part_ascends rows (columns_at cs (pivots rows cs)) cs m a in
    let b = run_built rows cs a (length cs) in
    let s = same_all cs in
    let all : AllIn (tests (columns_at cs (pivots rows cs))) (first_columns (column_test cs) (length cs)) = pivots_span rows cs (tests (columns_at cs (pivots rows cs))) a
    (λ k l h. mem_tests (column_at cs k) (columns_at cs (pivots rows cs)) (mem_map_in (column_at cs) k (pivots rows cs) (filter_mem (is_pivot rows cs) k (below (length cs)) (range_mem 0 (length cs) k (omega arith) (omega arith)) h)))
    (length cs) (omega arith) in
    let size : length (tests (columns_at cs (pivots rows cs))) ≡ length (vectors (leads (run rows cs (length cs)))) =
    length_tests (columns_at cs (pivots rows cs)) ∙ (length-map (pivots rows cs) (column_at cs) ∙ (ap length (sym (columns_are rows cs (length cs) a (omega arith)))
    ∙ (length_backwards (columns_of (run rows cs (length cs))) ∙ (length_columns (run rows cs (length cs)) ∙ sym (length_leads (run rows cs (length cs))))))) in
    record {
      choice = columns_at cs (pivots rows cs);
      chosen = mem_contains (columns_at cs (pivots rows cs)) (parts cs) m;
      independent = independent_from rows (columns_at cs (pivots rows cs)) c
          (indep_by_count (vectors (leads (run rows cs (length cs)))) [] (tests (columns_at cs (pivots rows cs))) (echelon_indep _ b.echelon)
          (all_in_within (tests (columns_at cs (pivots rows cs))) (first_columns (column_test cs) (length cs)) _ all b.spans.there) size);
      spanning = all_in_spanning rows (columns_at cs (pivots rows cs)) cs c a
          (all_in_within (tests (columns_at cs (pivots rows cs))) (first_columns (column_test cs) (length cs)) (tests cs) all s.there);
      count = length-map (pivots rows cs) (column_at cs);
    }
