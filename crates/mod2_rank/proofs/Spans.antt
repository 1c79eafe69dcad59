-- Which columns are sums of a part of some columns. A list of columns has the last one first.
use Rattle.std.proofs.Common.{◌≡◌, ◌⊎◌, ℕ, ◌≤◌, List, [], ◌∷◌, refl, sym, inl, inr}
use Rattle.mod2_rank.specs.Rows.{Rows, none, plus, IsLeast}
use Rattle.mod2_rank.proofs.Vectors.{plus_assoc, plus_both, plus_itself, plus_swap, plus_twice}

-- v is the sum of a part of the columns
abbrev pub InSpan : List Rows → Rows → Type 0
InSpan [] v = v ≡ none
InSpan (c ∷ b) v = InSpan b v ⊎ InSpan b (plus v c)

-- r is the least row of a sum
abbrev pub IsReached : List Rows → ℕ → Type 0
IsReached b r = (v : Rows) × InSpan b v × IsLeast v r

-- c isn't the sum of a part of the columns before, and r is the greatest of the least rows that such sums give with it
pub record IsPivot (c : Rows) (b : List Rows) (r : ℕ) : Type 0 where
  pub new : InSpan b c → ⊥
  pub sum : Rows
  pub made : InSpan b (plus sum c)
  pub least : IsLeast sum r
  pub greatest : (v : Rows) (q : ℕ) → InSpan b (plus v c) → IsLeast v q → q ≤ r

-- sums of two sums
pub InSpan-plus : (b : List Rows) (v w : Rows) → InSpan b v → InSpan b w → InSpan b (plus v w)
InSpan-plus [] v w h k = rw (h, k)
InSpan-plus (c ∷ b) v w (inl h) (inl k) = inl (InSpan-plus b v w h k)
InSpan-plus (c ∷ b) v w (inl h) (inr k) = inr (rw (sym (plus_assoc v w c)) at (InSpan-plus b v (plus w c) h k))
InSpan-plus (c ∷ b) v w (inr h) (inl k) = inr (rw (plus_swap v c w) at (InSpan-plus b (plus v c) w h k))
InSpan-plus (c ∷ b) v w (inr h) (inr k) = inl (rw (plus_both v w c) at (InSpan-plus b (plus v c) (plus w c) h k))

-- the empty column is a sum
pub span_none : (b : List Rows) → InSpan b none
span_none [] = refl
span_none (c ∷ b) = inl (span_none b)

-- the first column is a sum
pub span_first : (c : Rows) (b : List Rows) → InSpan (c ∷ b) c
span_first c b = inr (rw (plus_itself c) (span_none b))

-- each of the columns xs is the sum of a part of b
abbrev pub AllIn : List Rows → List Rows → Type 0
AllIn b [] = Unit {0}
AllIn b (x ∷ xs) = InSpan b x × AllIn b xs

-- sums of sums are sums
pub span_within : (b xs : List Rows) (v : Rows) → AllIn b xs → InSpan xs v → InSpan b v
span_within b [] v a i = rw i (span_none b)
span_within b (x ∷ xs) v a (inl i) = span_within b xs v a.1 i
span_within b (x ∷ xs) v a (inr i) = rw (plus_twice v x) at (InSpan-plus b (plus v x) x (span_within b xs (plus v x) a.1 i) a.0)

-- one column more before the others
pub all_in_more : (b xs : List Rows) (c : Rows) → AllIn b xs → AllIn (c ∷ b) xs
all_in_more b [] c a = tt
all_in_more b (x ∷ xs) c a = (inl a.0, all_in_more b xs c a.1)

-- each column is a sum of all
pub all_in_itself : (b : List Rows) → AllIn b b
all_in_itself [] = tt
all_in_itself (c ∷ b) = (span_first c b, all_in_more b b c (all_in_itself b))

-- sums of sums are sums, for lists
pub all_in_within : (c b xs : List Rows) → AllIn c b → AllIn b xs → AllIn c xs
all_in_within c b [] a i = tt
all_in_within c b (x ∷ xs) a i = (span_within c b x a i.0, all_in_within c b xs a i.1)
