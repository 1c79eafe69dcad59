-- The parity of what two tests share below a bound, linear in each.
use Rattle.std.proofs.Common.{◌≡◌, ℕ, zero, suc, ◌+◌, ◌<◌, Bool, true, false, cond, ◌&&◌, List, [], ◌∷◌, refl, sym, ◌∙◌, ap, subst, arith, inl, inr, ◌≢◌}
use Rattle.std.specs.List.{count_by}
use Rattle.std.proofs.lemmas.Bool.{cases_eq, eq-eqb, ne_eqb, true≢false, not-true, not_from_false}
use Rattle.std.proofs.lemmas.List.Sums.{sum_by-cons}
use Rattle.mod2_rank.specs.Rows.{differ, Rows, none, plus, only}
use Rattle.mod2_rank.proofs.Vectors.{differ_middle, differ_false}
use Rattle.obd_base.specs.Lists.{is_odd, has}
use Rattle.mod2_rank.specs.Linear.{meets_evenly, Ascends}
use Rattle.mod2_rank.proofs.Spans.{InSpan}
use Rattle.mod2_rank.proofs.Ascending.{ascends_low}
use mathlib.Core.Path.{fun_ext}

-- whether the tests share an odd number of numbers below n
abbrev pub dot : ℕ → Rows → Rows → Bool
dot zero f v = false
dot (suc n) f v = differ (dot n f v) (f n && v n)

-- `and` spreads over a difference
and_differ : (a b c : Bool) → (a && differ b c) ≡ differ (a && b) (a && c)
and_differ true b c = refl
and_differ false b c = refl

-- from the right too
differ_and : (a b c : Bool) → (differ a b && c) ≡ differ (a && c) (b && c)
differ_and true true true = refl
differ_and true true false = refl
differ_and true false true = refl
differ_and true false false = refl
differ_and false b c = refl

-- the parity of a meeting is additive on the right
pub dot_right : (n : ℕ) (f v w : Rows) → dot n f (plus v w) ≡ differ (dot n f v) (dot n f w)
dot_right zero f v w = refl
dot_right (suc n) f v w = rw (dot_right n f v w, and_differ (f n) (v n) (w n)) (differ_middle (dot n f v) (dot n f w) (f n && v n) (f n && w n))

-- and on the left
pub dot_left : (n : ℕ) (f g v : Rows) → dot n (plus f g) v ≡ differ (dot n f v) (dot n g v)
dot_left zero f g v = refl
dot_left (suc n) f g v = rw (dot_left n f g v, differ_and (f n) (g n) (v n)) (differ_middle (dot n f v) (dot n g v) (f n && v n) (g n && v n))

-- only what is shared counts
pub dot_same : (n : ℕ) (f v g w : Rows) → ((k : ℕ) → k < n → (f k && v k) ≡ (g k && w k)) → dot n f v ≡ dot n g w
dot_same zero f v g w h = refl
dot_same (suc n) f v g w h = rw (dot_same n f v g w (λ k l. h k (omega arith)), h n (omega arith)) refl

-- nothing meets evenly
pub dot_none : (n : ℕ) (f : Rows) → dot n f none ≡ false
dot_none zero f = refl
dot_none (suc n) f = rw (dot_none n f) (at (f n))
  where
    at : (b : Bool) → (b && false) ≡ false
    at true = refl
    at false = refl

-- with one row it is the test of that row
pub dot_only : (n : ℕ) (f : Rows) (x : ℕ) → x < n → dot n f (only x) ≡ f x
dot_only zero f x l = absurd (omega arith)
dot_only (suc n) f x l = elim (cases_eq n x) [
  | inl e ↦ rw (eq-eqb n x e, lower e) (at (f n) ∙ ap f e)
  | inr ne ↦ rw (ne_eqb n x ne, dot_only n f x (omega arith)) (off (f n) (f x))
]
  where
    at : (b : Bool) → (b && true) ≡ b
    at true = refl
    at false = refl

    off : (b c : Bool) → differ c (b && false) ≡ c
    off true true = refl
    off true false = refl
    off false true = refl
    off false false = refl

    shared : (k : ℕ) → k < n → n ≡ x → (f k && only x k) ≡ (f k && none k)
    shared k lk e = rw (ne_eqb k x (λ q. omega arith)) refl

    lower : n ≡ x → dot n f (only x) ≡ false
    lower e = dot_same n f (only x) f none (λ k lk. shared k lk e) ∙ dot_none n f

-- an ascending list as a test, member by member
pub has_cons : (x : ℕ) (xs : List ℕ) (high : ℕ) → Ascends (suc x) high xs → has (x ∷ xs) ≡ plus (only x) (has xs)
has_cons x xs high a = fun_ext (λ k. elim (cases_eq k x) [
  | inl e ↦ rw (eq-eqb k x e, ascends_low xs (suc x) high k a (omega arith)) refl
  | inr ne ↦ rw (ne_eqb k x ne) refl
])

-- the count of an ascending list that passes f
pub odd_shared : (n : ℕ) (f : Rows) (c : List ℕ) (low : ℕ) → Ascends low n c → is_odd (count_by f c) ≡ dot n f (has c)
odd_shared n f [] low a = sym (dot_none n f)
odd_shared n f (x ∷ xs) low a =
    ap is_odd (sum_by-cons (λ c. cond (f c) 1 0) x xs) ∙ (step (f x) ∙ (join (odd_shared n f xs (suc x) a.2)
    ∙ sym (ap (dot n f) (has_cons x xs n a.2) ∙ dot_right n f (only x) (has xs))))
  where
    step : (b : Bool) → is_odd (cond {A = ℕ} b 1 0 + count_by f xs) ≡ differ b (is_odd (count_by f xs))
    step true = let e : 1 + count_by f xs ≡ suc (count_by f xs) = omega arith in rw e refl
    step false = let e : 0 + count_by f xs ≡ count_by f xs = omega arith in rw e refl

    join : is_odd (count_by f xs) ≡ dot n f (has xs) → differ (f x) (is_odd (count_by f xs)) ≡ differ (dot n f (only x)) (dot n f (has xs))
    join e = rw (dot_only n f x a.1, e) refl

-- an even meeting has parity 0
pub even_from : (n : ℕ) (f c : List ℕ) → Ascends 0 n c → meets_evenly f c ≡ true → dot n (has f) (has c) ≡ false
even_from n f c a h = sym (odd_shared n (has f) c 0 a) ∙ not-true (is_odd (count_by (has f) c)) h

-- and parity 0 is an even meeting
pub even_to : (n : ℕ) (f c : List ℕ) → Ascends 0 n c → dot n (has f) (has c) ≡ false → meets_evenly f c ≡ true
even_to n f c a h = not_from_false (is_odd (count_by (has f) c)) (odd_shared n (has f) c 0 a ∙ h)

-- even on the columns is even on the sums
abbrev pub AllEven : ℕ → Rows → List Rows → Type 0
AllEven n f [] = Unit {0}
AllEven n f (c ∷ b) = (dot n f c ≡ false) × AllEven n f b

-- what meets each column evenly meets each sum so
pub even_in_span : (n : ℕ) (f : Rows) (b : List Rows) (v : Rows) → AllEven n f b → InSpan b v → dot n f v ≡ false
even_in_span n f [] v a i = ap (dot n f) i ∙ dot_none n f
even_in_span n f (c ∷ b) v a (inl i) = even_in_span n f b v a.1 i
even_in_span n f (c ∷ b) v a (inr i) =
    sym (differ_false (dot n f v)) ∙ (ap (differ (dot n f v)) (sym a.0) ∙ (sym (dot_right n f v c) ∙ even_in_span n f b (plus v c) a.1 i))

-- a test is known at k by a column with k on which it is even, where it is known at the other rows of the column
pub fixed_at : (n k : ℕ) (f g v : Rows) → k < n → v k ≡ true → ((r : ℕ) → r < n → (r ≢ k) → v r ≡ true → f r ≡ g r)
    → dot n f v ≡ dot n g v → f k ≡ g k
fixed_at n k f g v l on h e = go (plus f g k) refl
  where
    two : (a b : Bool) → a ≡ b → differ a b ≡ false
    two true b e = rw (sym e) refl
    two false b e = sym e

    even : dot n (plus f g) v ≡ false
    even = dot_left n f g v ∙ two (dot n f v) (dot n g v) e

    same : (a b : Bool) → differ a b ≡ false → a ≡ b
    same true true q = refl
    same true false q = q
    same false b q = sym q

    at_other : (r : ℕ) → r < n → (r ≢ k) → (t : Bool) → v r ≡ t → (differ (f r) (g r) && v r) ≡ false
    at_other r lr ne true q = rw (q, two (f r) (g r) (h r lr ne q)) refl
    at_other r lr ne false q = rw q (off (differ (f r) (g r)))
      where
        off : (b : Bool) → (b && false) ≡ false
        off true = refl
        off false = refl

    go : (t : Bool) → plus f g k ≡ t → f k ≡ g k
    go false q = same (f k) (g k) q
    go true q = absurd (true≢false (sym (dot_only n (λ r. true) k l) ∙ (sym shared ∙ even)))
      where
        here : (differ (f k) (g k) && v k) ≡ true
        here = rw (q, on) refl

        each : (r : ℕ) → r < n → (plus f g r && v r) ≡ (true && only k r)
        each r lr = elim (cases_eq r k) [
          | inl z ↦ rw (eq-eqb r k z) (subst (λ w. (differ (f w) (g w) && v w) ≡ true) (sym z) here)
          | inr ne ↦ rw (ne_eqb r k ne) (at_other r lr ne (v r) refl)
        ]

        shared : dot n (plus f g) v ≡ dot n (λ r. true) (only k)
        shared = dot_same n (plus f g) v (λ r. true) (only k) each
