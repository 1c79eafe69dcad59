-- A list in which each number below n has become some items: where they stand.
use Rattle.std.proofs.Common.{◌≡◌, ℕ, zero, suc, ◌+◌, ◌-◌, ◌<◌, ◌≤◌, cond, eqb, List, [], ◌∷◌, ◌++◌, length, get_or, sym, ap, ◌∙◌, inl, inr, arith}
use Rattle.std.specs.List.{flat_map, sum_by}
use Rattle.std.proofs.lemmas.Bool.{cases_eq, cases_lt, eq-eqb, ne_eqb}
use Rattle.std.proofs.lemmas.List.{get_or_append_left, get_or-append-add}
use Rattle.std.proofs.lemmas.List.Concat.{flat_map-append, length-flat_map}
use Rattle.std.proofs.lemmas.List.{append-nil}
use Rattle.obd_base.specs.Lists.{below}
use Rattle.obd_base.proofs.lists.Below.{below_push}
use Rattle.obd_base.proofs.lists.Sums.{sum_below_push}
use Rattle.curve_paths.proofs.CurvePoints.{following}

module _ (n : ℕ) (len : ℕ → ℕ) where
  -- how many items come before those of a number
  abbrev pub base : ℕ → ℕ
  base i = sum_by len (below i)

  abbrev pub total : ℕ
  total = sum_by len (below n)

  pub base_suc : (i : ℕ) → base (suc i) ≡ base i + len i
  base_suc i = sum_below_push len i

  pub base_more : (a b : ℕ) → a ≤ b → base a ≤ base b
  base_more a zero l = let e : a ≡ 0 = omega (arith, l) in omega (arith, ap (λ x. base x) e)
  base_more a (suc b) l = elim (cases_eq a (suc b)) [
    | inl e ↦ omega (arith, ap (λ x. base x) e)
    | inr m ↦ (let r = base_more a b (omega (arith, l, m)) in omega (arith, r, base_suc b))
  ]

  -- a place, read round
  abbrev pub wrap : ℕ → ℕ
  wrap b = cond (eqb b total) 0 b

  pub wrap_less : (b : ℕ) → b < total → wrap b ≡ b
  wrap_less b l = ap (λ t. cond t 0 b) (ne_eqb b total (λ e. omega (arith, e, l)))

  -- the place of the items after a number, read round
  pub wrap_following : (i : ℕ) → i < n → wrap (base (following n i)) ≡ wrap (base (suc i))
  wrap_following i l = elim (cases_eq (suc i) n) [
    | inl e ↦
        let f : following n i ≡ 0 = ap (λ t. cond t 0 (suc i)) (eq-eqb (suc i) n e) in
        let last : wrap (base (suc i)) ≡ 0 = ap (λ t. cond t 0 (base (suc i))) (eq-eqb (base (suc i)) total (ap (λ x. base x) e)) in
        ap (λ x. wrap (base x)) f ∙ (first ∙ sym last)
    | inr m ↦ ap (λ x. wrap (base x)) (ap (λ t. cond t 0 (suc i)) (ne_eqb (suc i) n m))
  ]
    where
      first : wrap (base 0) ≡ 0
      first = elim (cases_eq (base 0) total) [
        | inl e ↦ ap (λ t. cond t 0 (base 0)) (eq-eqb (base 0) total e)
        | inr m ↦ ap (λ t. cond t 0 (base 0)) (ne_eqb (base 0) total m)
      ]

  -- the place before a place, read round
  abbrev pub before : ℕ → ℕ
  before b = cond (eqb b 0) (total - 1) (b - 1)

  pub before_following : (i : ℕ) → i < n → 1 ≤ base (suc i) → before (base (following n i)) ≡ base (suc i) - 1
  before_following i l h = elim (cases_eq (suc i) n) [
    | inl e ↦
        let f : following n i ≡ 0 = ap (λ t. cond t 0 (suc i)) (eq-eqb (suc i) n e) in
        ap (λ x. before (base x)) f ∙ ap (λ x. base x - 1) (sym e)
    | inr m ↦
        let f : following n i ≡ suc i = ap (λ t. cond t 0 (suc i)) (ne_eqb (suc i) n m) in
        ap (λ x. before (base x)) f ∙ ap (λ t. cond t (total - 1) (base (suc i) - 1)) (ne_eqb (base (suc i)) 0 (λ e. omega (arith, e, h)))
  ]

module _ {X : Type 0} (f : ℕ → List X) where
  abbrev pub start : ℕ → ℕ
  start i = sum_by (λ j. length (f j)) (below i)

  pub flat_push : (n : ℕ) → flat_map f (below (suc n)) ≡ flat_map f (below n) ++ f n
  flat_push n = ap (flat_map f) (below_push n) ∙ (flat_map-append f (below n) (n ∷ []) ∙ ap (λ z. flat_map f (below n) ++ z) (append-nil (f n)))

  pub length-flat : (n : ℕ) → length (flat_map f (below n)) ≡ start n
  length-flat n = length-flat_map f (below n)

  -- item j of number i
  pub flat_at : (n i j : ℕ) (d : X) → i < n → j < length (f i) → get_or (flat_map f (below n)) (start i + j) d ≡ get_or (f i) j d
  flat_at zero i j d l h = absurd (omega arith)
  flat_at (suc n) i j d l h = elim (cases_eq i n) [
    | inl e ↦
        ap (λ xs. get_or xs (start i + j) d) (flat_push n)
        ∙ (ap (λ x. get_or (flat_map f (below n) ++ f n) (x + j) d) (ap (λ x. start x) e ∙ sym (length-flat n))
        ∙ (get_or-append-add (flat_map f (below n)) (f n) j d ∙ ap (λ x. get_or (f x) j d) (sym e)))
    | inr m ↦
        let li : i < n = omega (arith, l, m) in
        let s = base_suc n (λ j. length (f j)) i in
        let t = base_more n (λ j. length (f j)) (suc i) n li in
        ap (λ xs. get_or xs (start i + j) d) (flat_push n)
        ∙ (get_or_append_left (flat_map f (below n)) (f n) d (start i + j) (omega (arith, length-flat n, s, t, h)) ∙ flat_at n i j d li h)
  ]

  -- each item is one of some number
  pub flat_of : (n r : ℕ) → r < start n → (i : ℕ) × (j : ℕ) × (i < n) × (j < length (f i)) × (start i + j ≡ r)
  flat_of zero r l = absurd (omega (arith, l))
  flat_of (suc n) r l = elim (cases_lt r (start n)) [
    | inl h ↦ (let (i, j, a, b, e) = flat_of n r h in (i, j, omega (arith, a), b, e))
    | inr h ↦ (n, r - start n, omega arith, (let s = base_suc n (λ j. length (f j)) n in omega (arith, s, l, h)), omega (arith, h))
  ]
