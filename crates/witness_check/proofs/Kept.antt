-- Rules that are kept, line by line.
use Rattle.std.proofs.Common.{◌≡◌, ℕ, zero, suc, ◌+◌, ◌<◌, Bool, true, false, cond, not, ◌||◌, eqb, List, [], ◌∷◌, ◌++◌, length, map, take, find, None, refl, sym, ◌∙◌, ap, subst, arith, inl, inr}
use Rattle.std.specs.Prelude.{All, slice_index_or}
use Rattle.std.specs.List.{enumerate_from, list_all, list_any}
use Rattle.std.specs.Str.{bytes_eq}
use Rattle.std.proofs.lemmas.Bool.{and_parts, and_from}
use Rattle.std.proofs.lemmas.Slice.Eq.{bytes_eq-Decides}
use Rattle.obd_base.specs.Lists.{Mem, Once}
use Rattle.obd_base.specs.declared.points.Exit.{Exit}
use Rattle.mod2_rank.proofs.Members.{same_list_itself}
use Rattle.witness_check.specs.declared.checked.Checked.{Checked}
use Rattle.witness_check.specs.Checked.{bad_line, first_bad}
use Rattle.witness_check.specs.Rules.{Rule, at_last, each, same_exits, same_names}

-- entry i of a list
abbrev pub At : {A : Type 0} → List A → ℕ → A → Type 0
At [] i a = ⊥
At (x ∷ xs) zero a = x ≡ a
At (x ∷ xs) (suc i) a = At xs i a

pub at_mem : {A : Type 0} (xs : List A) (i : ℕ) (a : A) → At xs i a → Mem a xs
at_mem [] i a h = absurd h
at_mem (x ∷ xs) zero a h = inl (sym h)
at_mem (x ∷ xs) (suc i) a h = inr (at_mem xs i a h)

pub at_map : {A B : Type 0} (f : A → B) (xs : List A) (i : ℕ) (a : A) → At xs i a → At (map f xs) i (f a)
at_map f [] i a h = absurd h
at_map f (x ∷ xs) zero a h = ap f h
at_map f (x ∷ xs) (suc i) a h = at_map f xs i a h

pub at_unmap : {A B : Type 0} (f : A → B) (xs : List A) (i : ℕ) (b : B) → At (map f xs) i b → (a : A) × At xs i a × (f a ≡ b)
at_unmap f [] i b h = absurd h
at_unmap f (x ∷ xs) zero b h = (x, refl, h)
at_unmap f (x ∷ xs) (suc i) b h = at_unmap f xs i b h

pub at_index : {A : Type 0} (xs : List A) (i : ℕ) (a d : A) → At xs i a → slice_index_or xs i d ≡ a
at_index [] i a d h = absurd h
at_index (x ∷ xs) zero a d h = h
at_index (x ∷ xs) (suc i) a d h = at_index xs i a d h

-- an entry of a list of which all have a property
pub at_all : {A : Type 0} (P : A → Type 0) (xs : List A) (i : ℕ) (a : A) → All P xs → At xs i a → P a
at_all {A = A} P xs i a all at = subst P (at_index xs i a a at) (all i a (within xs i at))
  where
    within : (ys : List A) (j : ℕ) → At ys j a → j < length ys
    within [] j h = absurd h
    within (y ∷ ys) zero h = omega arith
    within (y ∷ ys) (suc j) h = omega (arith, within ys j h)

-- and all have it where each entry does
pub all_at : {A : Type 0} (P : A → Type 0) (xs : List A) → ((i : ℕ) (a : A) → At xs i a → P a) → All P xs
all_at {A = A} P xs h i d l = h i (slice_index_or xs i d) (at_below xs i d l)
  where
    at_below : (ys : List A) (j : ℕ) (e : A) → j < length ys → At ys j (slice_index_or ys j e)
    at_below [] j e k = absurd (omega (arith, k))
    at_below (y ∷ ys) zero e k = refl
    at_below (y ∷ ys) (suc j) e k = at_below ys j e (omega (arith, k))

-- all rules of a line, and of all lines
abbrev pub keep : List Rule → Bool
keep rules = list_all (λ r. r.keeps) rules

abbrev pub keep_all : List (List Rule) → Bool
keep_all lines = list_all keep lines

pub keep_append : (ks ls : List (List Rule)) → keep_all ks ≡ true → keep_all ls ≡ true → keep_all (ks ++ ls) ≡ true
keep_append [] ls h k = k
keep_append (l ∷ ks) ls h k = let (p, q) = and_parts (keep l) (keep_all ks) h in and_from (keep l) _ p (keep_append ks ls q k)

pub keep_one : (r : Rule) → r.keeps ≡ true → keep (r ∷ []) ≡ true
keep_one r h = and_from r.keeps true h refl

pub keep_two : (r s : Rule) → r.keeps ≡ true → s.keeps ≡ true → keep (r ∷ s ∷ []) ≡ true
keep_two r s h k = and_from r.keeps _ h (keep_one s k)

pub keep_line : (line : List Rule) (lines : List (List Rule)) → keep line ≡ true → keep_all lines ≡ true → keep_all (line ∷ lines) ≡ true
keep_line line lines h k = and_from (keep line) (keep_all lines) h k

each_from : {A : Type 0} (rules : ℕ → A → List Rule) (n : ℕ) (xs : List A) → ((i k : ℕ) (a : A) → k ≡ n + i → At xs i a → keep (rules k a) ≡ true)
    → keep_all (map (λ e. rules e.0 e.1) (enumerate_from n xs)) ≡ true
each_from rules n [] h = refl
each_from rules n (x ∷ xs) h =
    and_from (keep (rules n x)) _ (h 0 n x (omega arith) refl) (each_from rules (n + 1) xs (λ i k a e at. h (suc i) k a (omega (arith, e)) at))

-- the lines of some entries
pub keep_each : {A : Type 0} (rules : ℕ → A → List Rule) (xs : List A) → ((i : ℕ) (a : A) → At xs i a → keep (rules i a) ≡ true) → keep_all (each rules xs) ≡ true
keep_each rules xs h = each_from rules 0 xs (λ i k a e at. let s : i ≡ k = omega (arith, e) in subst (λ j. keep (rules j a) ≡ true) s (h i a at))

-- a rule of the last line
pub keep_last : {A : Type 0} (xs : List A) (i : ℕ) (r : Rule) → r.keeps ≡ true → keep (at_last xs i r) ≡ true
keep_last xs i r h = go (eqb (suc i) (length xs))
  where
    go : (b : Bool) → keep (cond b (r ∷ []) []) ≡ true
    go true = keep_one r h
    go false = refl

-- a rule and those of the last line
pub keep_before : (r : Rule) (rules : List Rule) → r.keeps ≡ true → keep rules ≡ true → keep (r ∷ rules) ≡ true
keep_before r rules h k = and_from r.keeps (keep rules) h k

-- where all rules are kept no line is bad
pub none_bad : (number : ℕ) (lines : List (List Rule)) (good : Checked) → keep_all lines ≡ true → first_bad number lines good ≡ good
none_bad number [] good h = refl
none_bad number (rules ∷ lines) good h =
    let (p, q) = and_parts (keep rules) (keep_all lines) h in
    ap (bad_line number (first_bad (suc number) lines good)) (none rules p) ∙ none_bad (suc number) lines good q
  where
    none : (rules : List Rule) → keep rules ≡ true → find (λ r. not r.keeps) rules ≡ None
    none [] h = refl
    none (r ∷ rules) h = let (p, q) = and_parts r.keeps (keep rules) h in rw (p, none rules q) refl

-- lists are themselves
pub same_names_itself : (xs : List (List ℕ)) → same_names xs xs ≡ true
same_names_itself [] = refl
same_names_itself (x ∷ xs) = and_from (bytes_eq x x) _ ((bytes_eq-Decides x x).1 refl) (same_names_itself xs)

pub same_exits_itself : (es : List Exit) → same_exits es es ≡ true
same_exits_itself es = and_from _ _ (same_list_itself (map (λ e. e.side) es)) (same_list_itself (map (λ e. e.place) es))

-- a name among some, and one that isn't
pub some_name : (n : List ℕ) (names : List (List ℕ)) → Mem n names → list_any (bytes_eq n) names ≡ true
some_name n [] m = absurd m
some_name n (x ∷ names) (inl e) = rw ((bytes_eq-Decides n x).1 e) refl
some_name n (x ∷ names) (inr m) = go (bytes_eq n x) (some_name n names m)
  where
    go : (b : Bool) → list_any (bytes_eq n) names ≡ true → b || list_any (bytes_eq n) names ≡ true
    go true h = refl
    go false h = h

pub no_name : (n : List ℕ) (names : List (List ℕ)) → (Mem n names → ⊥) → list_any (bytes_eq n) names ≡ false
no_name n [] h = refl
no_name n (x ∷ names) h = go (bytes_eq n x) refl (no_name n names (λ m. h (inr m)))
  where
    go : (b : Bool) → bytes_eq n x ≡ b → list_any (bytes_eq n) names ≡ false → b || list_any (bytes_eq n) names ≡ false
    go true e k = absurd (h (inl ((bytes_eq-Decides n x).0 e)))
    go false e k = k

-- an entry of a list without repetition isn't among those before it
pub not_before : {A : Type 0} (xs : List A) (i : ℕ) (a : A) → Once xs → At xs i a → Mem a (take i xs) → ⊥
not_before [] i a o h m = h
not_before (x ∷ xs) zero a o h m = m
not_before (x ∷ xs) (suc i) a o h (inl e) = o.0 (subst (λ y. Mem y xs) e (at_mem xs i a h))
not_before (x ∷ xs) (suc i) a o h (inr m) = not_before xs i a o.1 h m
