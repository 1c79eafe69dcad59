-- The sets of strands and the tables over all of them, one entry more at a time.
use Rattle.std.proofs.Common.{◌≡◌, ℕ, zero, suc, ◌+◌, ◌-◌, ◌^◌, ◌<◌, ◌≤◌, Bool, true, false, eqb, ◌&&◌, ◌||◌, not, List, [], ◌∷◌, ◌++◌, length, map, take, drop, get_or, replicate, refl, sym, ◌∙◌, ap, ap₂, subst, arith, inl, inr}
use Rattle.std.specs.List.{All, list_any, range_with_len}
use Rattle.std.proofs.lemmas.Bool.{and_parts, and_from, eq-eqb, eqb-true}
use Rattle.std.proofs.lemmas.List.{drop_more, get_or_append_left, length-append, length-drop, length-map, take_more}
use Rattle.std.proofs.lemmas.List.Folds.{list_any-append}
use Rattle.std.proofs.lemmas.List.FromFn.{get_or-map-range_with_len, length-range_with_len}
use Rattle.std.proofs.lemmas.Nat.{or_lt, pow_below}
use Rattle.obd_base.specs.Lists.{below, has, Mem}
use Rattle.obd_base.proofs.lists.Below.{below_mem, below_push, mem_below}
use Rattle.obd_base.proofs.lists.Maps.{map_same}
use Rattle.generator_list.specs.Search.{goes_on, in_set, is_choice, meets, open_row, open_rows, with_strand}
use Rattle.generator_list.proofs.Members.{any_mem, mem_any}
use Rattle.generator_list.proofs.StrandPoints.{map_next}
use Rattle.generator_list.proofs.StrandSets.{has_push, set_with, set_with_test}

-- the set of the strands so far, with one more
pub set_more : (xs : List ℕ) (i x set new : ℕ) → i < length xs → x ≡ get_or xs i x → new ≡ with_strand set x → ((s : ℕ) → in_set set s ≡ has (take i xs) s)
    → (s : ℕ) → in_set new s ≡ has (take (i + 1) xs) s
set_more xs i x set new l is grown so_far s =
    let one : take (i + 1) xs ≡ take i xs ++ x ∷ [] = take_more xs i x l ∙ ap (λ y. take i xs ++ y ∷ []) (sym is) in
    ap (λ n. in_set n s) grown ∙ (set_with set x s ∙ (ap (λ b. eqb s x || b) (so_far s) ∙ (swap (eqb s x) (has (take i xs) s) ∙ (sym (has_push (take i xs) x s) ∙ ap (λ ys. has ys s) (sym one)))))
  where
    swap : (a b : Bool) → (a || b) ≡ (b || a)
    swap true true = refl
    swap true false = refl
    swap false true = refl
    swap false false = refl

-- a member as a test and as a fact
mem_has : (xs : List ℕ) (x : ℕ) → Mem x xs → has xs x ≡ true
mem_has xs x m = any_mem (eqb x) x xs m (eq-eqb x x refl)

has_mem : (xs : List ℕ) (x : ℕ) → has xs x ≡ true → Mem x xs
has_mem xs x h = let (y, m, e) = mem_any (eqb x) xs h in subst (λ z. Mem z xs) (sym (eqb-true x y e)) m

-- two tests that imply each other
both : (a b : Bool) → (a ≡ true → b ≡ true) → (b ≡ true → a ≡ true) → a ≡ b
both true b f g = sym (f refl)
both false true f g = g refl
both false false f g = refl

-- a test of the members is one of the numbers below a bound that are members
any_below : (p : ℕ → Bool) (xs : List ℕ) (n : ℕ) → ((x : ℕ) → Mem x xs → x < n) → list_any (λ s. has xs s && p s) (below n) ≡ list_any p xs
any_below p xs n small =
    both (list_any (λ s. has xs s && p s) (below n)) (list_any p xs)
    (λ h. let (s, m, e) = mem_any (λ s. has xs s && p s) (below n) h in let (a, b) = and_parts (has xs s) (p s) e in any_mem p s xs (has_mem xs s a) b)
    (λ h. let (s, m, e) = mem_any p xs h in any_mem (λ s. has xs s && p s) s (below n) (below_mem n s (small s m)) (and_from (has xs s) (p s) (mem_has xs s m) e))

-- tests that agree on the members
any_alike : {X : Type 0} (p q : X → Bool) (xs : List X) → ((x : X) → Mem x xs → p x ≡ q x) → list_any p xs ≡ list_any q xs
any_alike p q [] h = refl
any_alike p q (x ∷ xs) h = rw (h x (inl refl), any_alike p q xs (λ y m. h y (inr m))) refl

-- a row is made from the row of the arcs after
pub row_step : (ss : List ℕ) (rest : List (List ℕ)) (strands set : ℕ) (next : List Bool) → All (λ s. s < 8) ss → ((s : ℕ) → in_set strands s ≡ has ss s) → next ≡ open_row rest → set < 256
    → list_any (is_choice strands next set) (below 8) ≡ meets (ss ∷ rest) (in_set set)
row_step ss rest strands set next small mask is l =
    any_alike (is_choice strands next set) (λ s. has ss s && q s) (below 8)
    (λ s m. ap₂ (λ a b. a && (not (in_set set s) && b)) (mask s) (read s (mem_below 8 s m)))
    ∙ any_below q ss 8 (λ x m. All-mem ss x m small)
  where
    q : ℕ → Bool
    q = λ s. not (in_set set s) && meets rest (λ k. eqb k s || in_set set k)

    All-mem : (xs : List ℕ) (x : ℕ) → Mem x xs → All (λ s. s < 8) xs → x < 8
    All-mem [] x m all = absurd m
    All-mem (y ∷ xs) x (inl e) all = let k : y < 8 = all 0 0 (omega arith) in omega (arith, e, k)
    All-mem (y ∷ xs) x (inr m) all = All-mem xs x m (λ k d h. all (suc k) d (omega (arith, h)))

    read : (s : ℕ) → s < 8 → get_or next (with_strand set s) false ≡ meets rest (λ k. eqb k s || in_set set k)
    read s h =
        let inside : with_strand set s < 256 = or_lt 8 set (2 ^ s) l (pow_below s 8 h) in
        ap (λ xs. get_or xs (with_strand set s) false) is
        ∙ (get_or-map-range_with_len (λ set. meets rest (in_set set)) 0 256 (with_strand set s) (with_strand set s) false inside (omega arith)
        ∙ ap (meets rest) (set_with_test set s))

-- one number more that doesn't pass, or does
pub none_more : (p : ℕ → Bool) (n x : ℕ) (b : Bool) → list_any p (below n) ≡ false → x ≡ n → b ≡ p x → b ≡ false → list_any p (below (n + 1)) ≡ false
none_more p n x b so_far is here fails =
    let e : n + 1 ≡ suc n = omega arith in
    ap (λ m. list_any p (below m)) e ∙ (ap (list_any p) (below_push n) ∙ (list_any-append p (below n) (n ∷ []) ∙ ap₂ (λ a c. a || (c || false)) so_far (ap p (sym is) ∙ (sym here ∙ fails))))

pub some_more : (p : ℕ → Bool) (n x k : ℕ) (b : Bool) → n < k → x ≡ n → b ≡ p x → b ≡ true → list_any p (below k) ≡ true
some_more p n x k b l is here passes = any_mem p n (below k) (below_mem k n l) (ap p (sym is) ∙ (sym here ∙ passes))

-- one value in every place
pub all_one : {A : Type 0} (x : A) (n a : ℕ) → replicate n x ≡ map (λ k. x) (range_with_len a n)
all_one x zero a = refl
all_one x (suc n) a = ap (λ xs. x ∷ xs) (all_one x n (a + 1))

-- the row so far, with the next set
pub row_more : (strands n : ℕ) (next : List Bool) (old after : List Bool) (x : ℕ) (b : Bool) → old ≡ map (λ set. list_any (is_choice strands next set) (below 8)) (below n)
    → x ≡ n → b ≡ list_any (is_choice strands next x) (below 8) → after ≡ old ++ b ∷ [] → after ≡ map (λ set. list_any (is_choice strands next set) (below 8)) (below (n + 1))
row_more strands n next old after x b so_far is here grown =
    map_next (λ set. list_any (is_choice strands next set) (below 8)) n old after b so_far (here ∙ ap (λ set. list_any (is_choice strands next set) (below 8)) is) grown

-- a whole row
pub row_whole : (ss : List ℕ) (rest : List (List ℕ)) (strands n : ℕ) (next row : List Bool) → All (λ s. s < 8) ss → ((s : ℕ) → in_set strands s ≡ has ss s) → next ≡ open_row rest → n ≡ 256
    → row ≡ map (λ set. list_any (is_choice strands next set) (below 8)) (below n) → row ≡ open_row (ss ∷ rest)
row_whole ss rest strands n next row small mask is all made =
    made ∙ (ap (λ m. map (λ set. list_any (is_choice strands next set) (below 8)) (below m)) all
    ∙ map_same (λ set. list_any (is_choice strands next set) (below 8)) (λ set. meets (ss ∷ rest) (in_set set)) (below 256) (λ set m. row_step ss rest strands set next small mask is (mem_below 256 set m)))

-- a row holds an entry for each set
pub row_size : (rest : List (List ℕ)) (row : List Bool) → row ≡ open_row rest → length row ≡ 256
row_size rest row is = ap length is ∙ (length-map (below 256) (λ set. meets rest (in_set set)) ∙ length-range_with_len 0 256)

-- there is a row for each number of last arcs
pub rows_size : (arcs : List (List ℕ)) → length (open_rows arcs) ≡ suc (length arcs)
rows_size [] = refl
rows_size (ss ∷ rest) = let e = length-append (open_rows rest) (open_row (ss ∷ rest) ∷ []) in let r = rows_size rest in omega (arith, e, r)

-- the last is that of all of them
last_of : {A : Type 0} (xs : List A) (x d : A) → get_or (xs ++ x ∷ []) (length xs) d ≡ x
last_of [] x d = refl
last_of (y ∷ xs) x d = last_of xs x d

pub rows_last : (arcs : List (List ℕ)) (d : List Bool) → get_or (open_rows arcs) (length arcs) d ≡ open_row arcs
rows_last [] d = refl
rows_last (ss ∷ rest) d = ap (λ k. get_or (open_rows rest ++ open_row (ss ∷ rest) ∷ []) k d) (sym (rows_size rest)) ∙ last_of (open_rows rest) (open_row (ss ∷ rest)) d

-- a row that is read as the last
pub last_read : (arcs : List (List ℕ)) (rows : List (List Bool)) (count : ℕ) (row : List Bool) → rows ≡ open_rows arcs → count ≡ length rows → row ≡ get_or rows (count - 1) row → row ≡ open_row arcs
last_read arcs rows count row is all read =
    let size : length rows ≡ suc (length arcs) = ap length is ∙ rows_size arcs in
    let at : count - 1 ≡ length arcs = omega (arith, size, all) in
    read ∙ (ap₂ (λ rs k. get_or rs k row) is at ∙ rows_last arcs row)

-- one arc more before the others
pub rows_more : (arcs : List (List ℕ)) (i : ℕ) (ss : List ℕ) (rows after : List (List Bool)) (row : List Bool) (d : List ℕ) → 0 < i → i ≤ length arcs → ss ≡ get_or arcs (i - 1) d
    → rows ≡ open_rows (drop i arcs) → row ≡ open_row (ss ∷ drop i arcs) → after ≡ rows ++ row ∷ [] → after ≡ open_rows (drop (i - 1) arcs)
rows_more arcs i ss rows after row d some within read is made grown =
    let e : i - 1 + 1 ≡ i = omega arith in
    let begun : drop (i - 1) arcs ≡ ss ∷ drop i arcs = drop_more arcs (i - 1) d (omega arith) ∙ ap₂ (λ s k. s ∷ drop k arcs) (sym read) e in
    grown ∙ (ap₂ (λ rs r. rs ++ r ∷ []) is made ∙ ap open_rows (sym begun))

-- the row for the arcs after one
row_of_last : (arcs : List (List ℕ)) (k : ℕ) (d : List Bool) → get_or (open_rows arcs) (length (drop k arcs)) d ≡ open_row (drop k arcs)
row_of_last arcs zero d = whole arcs
  where
    whole : (arcs : List (List ℕ)) → get_or (open_rows arcs) (length (drop 0 arcs)) d ≡ open_row (drop 0 arcs)
    whole [] = refl
    whole (ss ∷ rest) = rows_last (ss ∷ rest) d
row_of_last [] (suc k) d = refl
row_of_last (ss ∷ rest) (suc k) d =
    let fits : length (drop k rest) < length (open_rows rest) = (let a = rows_size rest in let b = length-drop k rest in omega (arith, a, b)) in
    get_or_append_left (open_rows rest) (open_row (ss ∷ rest) ∷ []) d (length (drop k rest)) fits ∙ row_of_last rest k d

pub row_read : (arcs : List (List ℕ)) (arc : ℕ) (rows : List (List Bool)) (count : ℕ) (row : List Bool) → rows ≡ open_rows arcs → arc < length arcs → count ≡ length arcs
    → row ≡ get_or rows (count - arc - 1) row → row ≡ open_row (drop (arc + 1) arcs)
row_read arcs arc rows count row is l all read =
    let size = length-drop (arc + 1) arcs in
    let at : count - arc - 1 ≡ length (drop (arc + 1) arcs) = omega (arith, size, all, l) in
    read ∙ (ap₂ (λ rs k. get_or rs k row) is at ∙ row_of_last arcs (arc + 1) row)

-- with an entry of that row a point is tested
pub goes_on_by_row : (rest : List (List ℕ)) (used s : ℕ) (row : List Bool) (b : Bool) (set : ℕ) → used < 256 → s < 8 → row ≡ open_row rest → b ≡ in_set used s → b ≡ false
    → set ≡ with_strand used s → get_or row set false ≡ goes_on rest used s
goes_on_by_row rest used s row b set l h is test fails with =
    let inside : with_strand used s < 256 = or_lt 8 used (2 ^ s) l (pow_below s 8 h) in
    ap₂ (λ xs k. get_or xs k false) is with
    ∙ (get_or-map-range_with_len (λ set. meets rest (in_set set)) 0 256 (with_strand used s) (with_strand used s) false inside (omega arith)
    ∙ ap (λ t. not t && meets rest (in_set (with_strand used s))) (sym (sym test ∙ fails)))
