-- Reduced columns with different least rows: what sums of them reach, and that a further reduced column makes a pivot column.
use Rattle.std.proofs.Common.{◌≡◌, ℕ, List, [], ◌∷◌, refl, sym, ◌∙◌, ap, arith, inl, inr}
use Rattle.std.proofs.lemmas.Bool.{cases_order, cases_lt, false≢true}
use Rattle.obd_base.specs.Lists.{Mem}
use Rattle.mod2_rank.specs.Rows.{Rows, plus, IsLeast}
use Rattle.mod2_rank.proofs.Vectors.{plus_twice, plus_both}
use Rattle.mod2_rank.proofs.Spans.{InSpan, InSpan-plus, IsReached, IsPivot, AllIn, span_within}

-- a reduced column and its least row
pub record Lead : Type 0 where
  pub vector : Rows
  pub row : ℕ

-- the reduced columns
abbrev pub vectors : List Lead → List Rows
vectors [] = []
vectors (p ∷ ps) = p.vector ∷ vectors ps

-- their rows
abbrev pub lead_rows : List Lead → List ℕ
lead_rows [] = []
lead_rows (p ∷ ps) = p.row ∷ lead_rows ps

-- each has its least row, and no two the same
abbrev pub Echelon : List Lead → Type 0
Echelon [] = Unit {0}
Echelon (p ∷ ps) = IsLeast p.vector p.row × (Mem p.row (lead_rows ps) → ⊥) × Echelon ps

-- the least row of a sum of reduced columns is the least row of one of them
pub reached_in : (ps : List Lead) (v : Rows) (r : ℕ) → Echelon ps → InSpan (vectors ps) v → IsLeast v r → Mem r (lead_rows ps)
reached_in [] v r e i l = absurd (false≢true (ap (λ (w : Rows). w r) (sym i) ∙ l.on))
reached_in (p ∷ ps) v r e (inl i) l = inr (reached_in ps v r e.2 i l)
reached_in (p ∷ ps) v r e (inr i) l = elim (cases_order r p.row) [
  | inl q ↦ inl q
  | inr o ↦ elim o [
    | inl lt ↦ inr (reached_in ps (plus v p.vector) r e.2 i
        (record { on = rw (l.on, e.0.below r lt) refl; below = λ k lk. rw (l.below k lk, e.0.below k (omega arith)) refl }))
    | inr gt ↦ absurd (e.1 (reached_in ps (plus v p.vector) p.row e.2 i
        (record { on = rw (l.below p.row gt, e.0.on) refl; below = λ k lk. rw (l.below k (omega arith), e.0.below k lk) refl })))
  ]
]

-- the reduced columns have the span of the columns before
pub record SameSpan (b c : List Rows) : Type 0 where
  pub there : AllIn c b
  pub back : AllIn b c

-- what is in one span is in the other
pub same_there : (b c : List Rows) (v : Rows) → SameSpan b c → InSpan b v → InSpan c v
same_there b c v s i = span_within c b v s.there i

-- and the other way round
pub same_back : (b c : List Rows) (v : Rows) → SameSpan b c → InSpan c v → InSpan b v
same_back b c v s i = span_within b c v s.back i

-- where no sum before has the least row r, that of a sum with c is c's pivot row
pub new_pivot : (c : Rows) (b : List Rows) (r : ℕ) → (IsReached b r → ⊥) → (v : Rows) → InSpan b (plus v c) → IsLeast v r → IsPivot c b r
new_pivot c b r out v i l = record {
  new = λ h. out (v, rw (plus_twice v c) at (InSpan-plus b (plus v c) c i h), l);
  sum = v;
  made = i;
  least = l;
  greatest = λ w q j k. elim (cases_lt r q) [
    | inl lt ↦ absurd (out (
      plus v w,
      rw (plus_both v w c) at (InSpan-plus b (plus v c) (plus w c) i j),
      record { on = rw (l.on, k.below r lt); below = λ x lx. rw (l.below x lx, k.below x (omega arith)) },
    ))
    | inr le ↦ le
  ];
}

-- what is left of a column, if it has a least row that is new, makes the column a pivot with this row
pub left_is_pivot : (ps : List Lead) (b : List Rows) (c v : Rows) (r : ℕ) → Echelon ps → SameSpan (vectors ps) b
    → InSpan (vectors ps) (plus v c) → IsLeast v r → (Mem r (lead_rows ps) → ⊥) → IsPivot c b r
left_is_pivot ps b c v r e s i l fresh =
    new_pivot c b r (λ h. let (w, j, k) = h in fresh (reached_in ps w r e (same_back (vectors ps) b w s j) k)) v (same_there (vectors ps) b (plus v c) s i) l

-- what is left with a new least row is in no sum, what is left empty is
pub left_is_new : (ps : List Lead) (v : Rows) (r : ℕ) → Echelon ps → IsLeast v r → (Mem r (lead_rows ps) → ⊥) → InSpan (vectors ps) v → ⊥
left_is_new ps v r e l fresh i = fresh (reached_in ps v r e i l)

-- the row of a pivot is one number
pub one_pivot_row : (c : Rows) (b : List Rows) (r q : ℕ) → IsPivot c b r → IsPivot c b q → r ≡ q
one_pivot_row c b r q p o = omega (arith, p.greatest o.sum q o.made o.least, o.greatest p.sum r p.made p.least)
