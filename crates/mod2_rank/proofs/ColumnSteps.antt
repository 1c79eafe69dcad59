-- One column on its way, as the loop over its least rows carries it.
use Rattle.std.proofs.Common.{◌≡◌, ℕ, zero, suc, ◌+◌, ◌<◌, ◌≤◌, List, [], ◌∷◌, ◌++◌, length, get_or, Option, Some, sym, ◌∙◌, ap, subst, arith, inl, inr}
use Rattle.std.proofs.lemmas.Bool.{cases_lt, false≢true}
use Rattle.obd_base.specs.Lists.{has}
use Rattle.mod2_rank.specs.Linear.{Ascends}
use Rattle.mod2_rank.specs.Reduction.{IsLeft, IsPivotTable, entry_of, list_of}
use Rattle.mod2_rank.specs.Rows.{Rows, none, plus, IsLeast, odd_times}
use Rattle.mod2_rank.proofs.Reducing.{left_first, left_more, odd_times_ascending}

-- each number of an ascending list is below its bound
pub ascends_all : (xs : List ℕ) (low high bound : ℕ) → Ascends low high xs → high ≤ bound → (k d : ℕ) → k < length xs → get_or xs k d < bound
ascends_all [] low high bound a h k d l = absurd (omega arith)
ascends_all (x ∷ xs) low high bound a h zero d l = omega (arith, a.1)
ascends_all (x ∷ xs) low high bound a h (suc k) d l = ascends_all xs (suc x) high bound a.2 h k d (omega arith)

-- an empty set to which a column is added
pub left_start : (rows : ℕ) (c : List ℕ) (n : ℕ) (reduced : ℕ → List ℕ) (added : List ℕ) (before now : Rows) → Ascends 0 rows c → before ≡ none → added ≡ []
    → now ≡ plus before (odd_times c) → IsLeft rows (has c) n reduced added 0 now
left_start rows c n reduced added before now a e f s =
    let same : now ≡ has c = s ∙ (ap (λ (v : Rows). plus v (odd_times c)) e ∙ odd_times_ascending c 0 rows a) in
    subst (λ (v : Rows). IsLeft rows (has c) n reduced added 0 v) (sym same) (subst (λ us. IsLeft rows (has c) n reduced us 0 (has c)) (sym f) (left_first rows c n reduced a))

module _ (rows : ℕ) (c : List ℕ) (lists : List (List ℕ)) (table : List (Option ℕ)) (tabled : IsPivotTable rows lists table) (added : List ℕ) (low : ℕ) (v : Rows)
    (left : IsLeft rows (has c) (length lists) (list_of lists) added low v) (r : ℕ) (least : IsLeast v r) where
  -- the least row is a row
  pub row_inside : r < rows
  row_inside = elim (cases_lt r rows) [ inl h ↦ h | inr h ↦ absurd (false≢true (sym (left.inside r h) ∙ least.on)) ]

  -- the reduced column of its pivot is added
  pub left_next : (l : ℕ) (us : List ℕ) (now : Rows) → entry_of table r ≡ Some l → us ≡ added ++ l ∷ [] → now ≡ plus v (odd_times (list_of lists l))
      → IsLeft rows (has c) (length lists) (list_of lists) us (r + 1) now
  left_next l us now e f s =
      let (small, asc, own) = tabled r l e in
      let t : now ≡ plus v (has (list_of lists l)) = s ∙ ap (plus v) (odd_times_ascending (list_of lists l) 0 rows asc) in
      let z : r + 1 ≡ suc r = omega arith in
      rw (z, t, f) (left_more rows (has c) (length lists) (list_of lists) added low v r l left least small asc own)
