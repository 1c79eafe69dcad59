-- What a loop without the columns used has at its end: the pivot columns with their rows, and the written functional where no pivot has the contact row.
use Rattle.std.proofs.Common.{◌≡◌, ℕ, zero, suc, ◌-◌, ◌<◌, Bool, cond, eqb, List, [], ◌∷◌, ◌++◌, length, map, refl, sym, ◌∙◌, ap, subst}
use Rattle.std.specs.List.{count_by}
use Rattle.obd_base.specs.Lists.{is_odd, has, Mem}
use Rattle.mod2_rank.specs.Linear.{pivots, pivot_row, IsWrittenFunctional}
use Rattle.mod2_rank.specs.Ascending.{AllAscend}
use Rattle.std.proofs.lemmas.List.{map-append}
use Rattle.mod2_rank.proofs.Echelon.{lead_rows}
use Rattle.mod2_rank.proofs.PureRun.{Pivot}
use Rattle.mod2_rank.proofs.Built.{leads}
use Rattle.mod2_rank.proofs.PivotColumns.{backwards, columns_of, rows_of, rows_right}
use Rattle.mod2_rank.proofs.Filled.{fill, decides_row}
use Rattle.mod2_rank.proofs.Eliminated.{written_functional}
use Rattle.mod2_rank.proofs.Lean.{LeanPivot, leans, LeanProgress}

-- the columns of the pivots
abbrev pub lean_columns : List LeanPivot → List ℕ
lean_columns [] = []
lean_columns (p ∷ ls) = p.column ∷ lean_columns ls

-- their rows
abbrev pub lean_rows : List LeanPivot → List ℕ
lean_rows [] = []
lean_rows (p ∷ ls) = p.row ∷ lean_rows ls

-- the pivots with no columns used, for `fill`, which looks at rows and reduced columns alone
abbrev pub plain : List LeanPivot → List Pivot
plain [] = []
plain (p ∷ ls) = record { column = p.column; row = p.row; reduced = p.reduced; used = [] } ∷ plain ls

-- the columns of the pivots, without what was used
pub columns_look : (ps : List Pivot) → lean_columns (leans ps) ≡ columns_of ps
columns_look [] = refl
columns_look (p ∷ ps) = ap (λ w. p.column ∷ w) (columns_look ps)

-- their rows
rows_look : (ps : List Pivot) → lean_rows (leans ps) ≡ rows_of ps
rows_look [] = refl
rows_look (p ∷ ps) = ap (λ w. p.row ∷ w) (rows_look ps)

-- and the rows as least rows
leads_look : (ps : List Pivot) → lean_rows (leans ps) ≡ lead_rows (leads ps)
leads_look [] = refl
leads_look (p ∷ ps) = ap (λ w. p.row ∷ w) (leads_look ps)

-- whether a row is in the functional needs no columns used
decides_look : (t : ℕ) (ps : List Pivot) (r : ℕ) (f : List ℕ) → decides_row t (plain (leans ps)) r f ≡ decides_row t ps r f
decides_look t [] r f = refl
decides_look t (p ∷ ps) r f = ap (λ (b : Bool). cond (eqb r p.row) (is_odd (count_by (has f) p.reduced)) b) (decides_look t ps r f)

-- so the functional doesn't
fill_look : (t : ℕ) (ps : List Pivot) (r k : ℕ) → fill t (plain (leans ps)) r k ≡ fill t ps r k
fill_look t ps r zero = refl
fill_look t ps r (suc k) =
    rw (fill_look t ps (suc r) k, decides_look t ps r (fill t ps (suc r) k)) refl

-- a list mapped and turned round
map_backwards : (f : ℕ → ℕ) (xs : List ℕ) → map f (backwards xs) ≡ backwards (map f xs)
map_backwards f [] = refl
map_backwards f (x ∷ xs) = map-append f (backwards xs) (x ∷ []) ∙ ap (λ w. w ++ (f x ∷ [])) (map_backwards f xs)

-- the columns of the pivots are the pivot columns
pub lean_columns_are : (rows : ℕ) (cs : List (List ℕ)) (ls : List LeanPivot) → LeanProgress rows cs (length cs) ls → backwards (lean_columns ls) ≡ pivots rows cs
lean_columns_are rows cs ls g = ap (λ (w : List LeanPivot). backwards (lean_columns w)) (sym g.look) ∙ (ap backwards (columns_look g.full) ∙ g.progress.columns_are)

-- and their rows are the pivot rows
pub lean_rows_are : (rows : ℕ) (cs : List (List ℕ)) (ls : List LeanPivot) → AllAscend rows cs → LeanProgress rows cs (length cs) ls → backwards (lean_rows ls) ≡ map (pivot_row rows cs) (pivots rows cs)
lean_rows_are rows cs ls a g =
    ap (λ (w : List LeanPivot). backwards (lean_rows w)) (sym g.look) ∙ (ap backwards (rows_look g.full ∙ sym (rows_right rows cs g.full a g.progress.built.each))
    ∙ (sym (map_backwards (pivot_row rows cs) (columns_of g.full)) ∙ ap (map (pivot_row rows cs)) g.progress.columns_are))

-- the functional where no pivot has the contact row; the chain else is LeanChain's
pub lean_functional : (rows : ℕ) (cs : List (List ℕ)) (ls : List LeanPivot) → 0 < rows → AllAscend rows cs → LeanProgress rows cs (length cs) ls → (Mem (rows - 1) (lean_rows ls) → ⊥)
    → IsWrittenFunctional rows cs (fill (rows - 1) (plain ls) 0 rows)
lean_functional rows cs ls l a g out =
    subst (λ w. IsWrittenFunctional rows cs w) (sym (fill_look (rows - 1) g.full 0 rows) ∙ ap (λ (w : List LeanPivot). fill (rows - 1) (plain w) 0 rows) g.look)
    (written_functional rows cs g.full l a g.progress (λ m. out (subst (λ (w : List LeanPivot). Mem (rows - 1) (lean_rows w)) g.look (subst (λ w. Mem (rows - 1) w) (sym (leads_look g.full)) m))))
