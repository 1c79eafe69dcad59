-- Columns ascend, their rows are numbers of generators, and that of the contact generator is empty.
use Rattle.std.proofs.Common.{◌≡◌, ℕ, zero, suc, ◌<◌, List, [], ◌∷◌, get_or, length, map, refl, sym, ◌∙◌, ap, subst, arith}
use Rattle.std.specs.List.Sorted.{IsStrictlyIncreasing}
use Rattle.std.proofs.lemmas.List.Kept.{IsStrictlyIncreasing-filter}
use Rattle.drawing.specs.Points.{contact_generator, generators}
use Rattle.empty_domains.proofs.Increasing.{increasing_range}
use Rattle.hkm_diagram.proofs.Laws.{contact_column_is_empty}
use Rattle.hkm_diagram.specs.Domains.{column, columns}
use Rattle.obd_base.proofs.lists.Below.{mem_below}
use Rattle.obd_base.proofs.lists.Members.{mem_filter, mem_map}
use Rattle.obd_base.specs.Lists.{Mem, below}
use Rattle.page_surface.specs.Drawing.{Drawing, IsEmbedded}

-- an entry of a mapped list
entry_map : (f : List ℕ → List ℕ) (xs : List (List ℕ)) (i : ℕ) → i < length xs → get_or (map f xs) i [] ≡ f (get_or xs i [])
entry_map f [] i l = absurd (omega arith)
entry_map f (x ∷ xs) zero l = refl
entry_map f (x ∷ xs) (suc i) l = entry_map f xs i (omega arith)

-- the rows of a column ascend
pub columns_ascend : (d : Drawing) (rows : List ℕ) → Mem rows (columns d) → IsStrictlyIncreasing rows
columns_ascend d rows m =
    let (y, k, e) = mem_map (column d) rows (generators d) m in
    subst (λ (z : List ℕ). IsStrictlyIncreasing z) (sym e) (IsStrictlyIncreasing-filter _ (below (length (generators d))) (increasing_range 0 (length (generators d))))

-- they are numbers of generators
pub rows_below : (d : Drawing) (rows : List ℕ) → Mem rows (columns d) → (row : ℕ) → Mem row rows → row < length (generators d)
rows_below d rows m row n =
    let (y, k, e) = mem_map (column d) rows (generators d) m in
    mem_below (length (generators d)) row (mem_filter _ row (below (length (generators d))) (subst (λ (z : List ℕ). Mem row z) e n)).0

-- the last column is empty, where the last generator is the contact generator
pub contact_empty : (d : Drawing) → IsEmbedded d → (gens found : List (List ℕ)) → gens ≡ generators d → found ≡ columns d → (k last : ℕ) → suc k ≡ length gens → suc last ≡ length gens
    → get_or gens k [] ≡ contact_generator d → get_or found last [] ≡ []
contact_empty d ok gens found are is k last ek el contact =
    let same : last ≡ k = omega (arith, ek, el) in
    let l : last < length (generators d) = omega (arith, el, ap length are) in
    ap (λ (xs : List (List ℕ)). get_or xs last []) is ∙ (entry_map (column d) (generators d) last l
    ∙ (ap (column d) (ap (λ (xs : List (List ℕ)). get_or xs last []) (sym are) ∙ (ap (λ n. get_or gens n []) same ∙ contact)) ∙ contact_column_is_empty d ok))
