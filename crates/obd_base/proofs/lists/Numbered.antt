-- Lists with their members numbered.
use Rattle.std.proofs.Common.{◌≡◌, ℕ, ◌+◌, ◌<◌, List, [], ◌∷◌, ◌++◌, map, length, get_or, refl, sym, ◌∙◌, ap, arith, inl, inr}
use Rattle.std.specs.List.{sum_by, enumerate_from}
use Rattle.std.proofs.lemmas.List.{get_or_at}
use Rattle.std.proofs.lemmas.List.Sums.{sum_by-cons}
use Rattle.obd_base.specs.Lists.{Mem}
use Rattle.obd_base.proofs.lists.Sums.{sum_same, sum_map}

-- a numbered member splits its list
pub enum_split : {X : Type 0} (n : ℕ) (xs : List X) (l : ℕ) (e : X) → Mem (l, e) (enumerate_from n xs) → (us : List X) × (vs : List X) × (xs ≡ us ++ (e ∷ vs)) × (l ≡ n + length us)
enum_split n [] l e m = absurd m
enum_split n (x ∷ xs) l e (inl q) =
    let a : l ≡ n = ap (λ r. r.0) q in
    let b : e ≡ x = ap (λ r. r.1) q in
    ([], xs, ap (λ y. y ∷ xs) (sym b), omega arith)
enum_split n (x ∷ xs) l e (inr m) =
    let (us, vs, q, r) = enum_split (n + 1) xs l e m in
    (x ∷ us, vs, ap (λ ys. x ∷ ys) q, omega arith)

-- a mapped list, numbered
pub enum_map : {X Y : Type 0} (f : X → Y) (n : ℕ) (xs : List X) → enumerate_from n (map f xs) ≡ map (λ q. (q.0, f q.1)) (enumerate_from n xs)
enum_map f n [] = refl
enum_map f n (x ∷ xs) = ap (λ ys. (n, f x) ∷ ys) (enum_map f (n + 1) xs)

-- a sum that does not look at the numbers
pub enum_plain : {X : Type 0} (g : X → ℕ) (n : ℕ) (xs : List X) → sum_by (λ q. g q.1) (enumerate_from n xs) ≡ sum_by g xs
enum_plain g n [] = refl
enum_plain g n (x ∷ xs) = omega (arith, sum_by-cons (λ q. g q.1) (n, x) (enumerate_from (n + 1) xs), sum_by-cons g x xs, enum_plain g (n + 1) xs)

-- a sum over a numbered, rewritten list
pub enum_sum : {X Y : Type 0} (h : ℕ × Y → ℕ) (f : X → Y) (g : X → ℕ) (n : ℕ) (xs : List X) → ((l : ℕ) (e : X) → Mem (l, e) (enumerate_from n xs) → h (l, f e) ≡ g e)
    → sum_by h (enumerate_from n (map f xs)) ≡ sum_by g xs
enum_sum h f g n xs same =
    ap (sum_by h) (enum_map f n xs) ∙ (sum_map h (λ q. (q.0, f q.1)) (enumerate_from n xs)
    ∙ (sum_same (λ q. h (q.0, f q.1)) (λ q. g q.1) (enumerate_from n xs) (λ q m. same q.0 q.1 m) ∙ enum_plain g n xs))

-- a list made again from its numbered, rewritten members
pub enum_again : {X Y : Type 0} (h : ℕ × Y → X) (f : X → Y) (n : ℕ) (xs : List X) → ((l : ℕ) (e : X) → Mem (l, e) (enumerate_from n xs) → h (l, f e) ≡ e)
    → map h (enumerate_from n (map f xs)) ≡ xs
enum_again h f n [] same = refl
enum_again h f n (x ∷ xs) same =
    let a : h (n, f x) ≡ x = same n x (inl refl) in
    let b = enum_again h f (n + 1) xs (λ l e m. same l e (inr m)) in
    rw (a, b) refl

-- a member comes within its list
pub length_split : {X : Type 0} (us : List X) (e : X) (vs : List X) → length us < length (us ++ (e ∷ vs))
length_split [] e vs = omega arith
length_split (u ∷ us) e vs = omega (arith, length_split us e vs)

-- a numbered, rewritten list is the list rewritten
pub enum_same : {X Y Z : Type 0} (h : ℕ × Y → Z) (f : X → Y) (g : X → Z) (n : ℕ) (xs : List X) → ((l : ℕ) (e : X) → Mem (l, e) (enumerate_from n xs) → h (l, f e) ≡ g e)
    → map h (enumerate_from n (map f xs)) ≡ map g xs
enum_same h f g n [] same = refl
enum_same h f g n (x ∷ xs) same =
    let a : h (n, f x) ≡ g x = same n x (inl refl) in
    let b = enum_same h f g (n + 1) xs (λ l e m. same l e (inr m)) in
    rw (a, b) refl

-- a numbered member is the one with this number
pub numbered_at : {X : Type 0} (xs : List X) (i : ℕ) (x z : X) → Mem (i, x) (enumerate_from 0 xs) → (i < length xs) × (get_or xs i z ≡ x)
numbered_at xs i x z m =
    let (us, vs, q, r) = enum_split 0 xs i x m in
    let n : i ≡ length us = omega arith in
    let len : length xs ≡ length (us ++ (x ∷ vs)) = ap length q in
    (omega (arith, n, len, length_split us x vs), ap (λ ys. get_or ys i z) q ∙ get_or_at us x vs z i (sym n))
