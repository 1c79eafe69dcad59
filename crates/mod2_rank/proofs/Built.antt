-- The invariant of the elimination: what holds of the pivots of the first j columns.
use Rattle.std.proofs.Common.{◌≡◌, ℕ, zero, suc, ◌<◌, ◌≤◌, Bool, true, false, cond, eqb, ◌||◌, List, [], ◌∷◌, refl, sym, ◌∙◌, ap, subst, arith, ◌⊎◌, inl, inr}
use Rattle.std.proofs.lemmas.Bool.{cases_Bool, cases_lt, cases_eq, eq-eqb, ne_eqb, eqb-true, false≢true, true≢false}
use Rattle.mod2_rank.specs.Rows.{differ, Rows, plus, only, IsLeast, total}
use Rattle.mod2_rank.proofs.Vectors.{plus_swap, plus_itself}
use Rattle.obd_base.specs.Lists.{has, Mem}
use Rattle.mod2_rank.specs.Linear.{column_at, Ascends}
use Rattle.mod2_rank.proofs.Spans.{InSpan, InSpan-plus, IsPivot, AllIn, span_none, all_in_itself}
use Rattle.mod2_rank.specs.Ascending.{AllAscend}
use Rattle.mod2_rank.proofs.Totals.{first_columns, total_plus, total_only, total_upto}
use Rattle.mod2_rank.proofs.Echelon.{Lead, vectors, lead_rows, Echelon, SameSpan}
use Rattle.mod2_rank.proofs.Ascending.{ascends_low, ascends_high, ascends_wider, below_ascends, has_below}
use Rattle.mod2_rank.proofs.Columns.{column_test, column_ascends}
use Rattle.mod2_rank.proofs.PureRun.{Pivot, Left, sum_two, starts, reduce_once, reduce_times}
use mathlib.Core.Path.{fun_ext}

-- a list whose test vanishes below a number ascends from there
pub ascends_raise : (xs : List ℕ) (low high l : ℕ) → Ascends low high xs → ((k : ℕ) → k < l → has xs k ≡ false) → Ascends l high xs
ascends_raise [] low high l a h = tt
ascends_raise (x ∷ xs) low high l a h = elim (cases_lt x l) [
  | inl lt ↦ absurd (true≢false (sym (top x xs) ∙ h x lt))
  | inr le ↦ (le, a.1, a.2)
]
  where
    top : (z : ℕ) (zs : List ℕ) → has (z ∷ zs) z ≡ true
    top z zs = rw (eq-eqb z z refl) refl

-- the sum of two columns, as tests
pub has_sum_two : (bound : ℕ) (xs ys : List ℕ) → Ascends 0 bound xs → Ascends 0 bound ys → has (sum_two bound xs ys) ≡ plus (has xs) (has ys)
has_sum_two bound xs ys a b = has_below (λ r. differ (has xs r) (has ys r)) bound (λ k l. rw (ascends_high xs 0 bound k a l, ascends_high ys 0 bound k b l) refl)

-- no member of the list is in a sum of the columns before it
abbrev pub OnlyNew : (ℕ → Rows) → List ℕ → Type 0
OnlyNew col js = (k : ℕ) → has js k ≡ true → InSpan (first_columns col k) (col k) → ⊥

-- what holds of each pivot
pub record IsBuilt (rows : ℕ) (col : ℕ → Rows) (j : ℕ) (p : Pivot) : Type 0 where
  pub early : p.column < j
  pub ascends : Ascends 0 rows p.reduced
  pub least : IsLeast (has p.reduced) p.row
  pub uses : Ascends 0 j p.used
  pub makes : has p.reduced ≡ total col (has p.used) j
  pub new : OnlyNew col p.used
  pub pivot : IsPivot (col p.column) (first_columns col p.column) p.row

-- the same of all
abbrev pub AllBuilt : ℕ → (ℕ → Rows) → ℕ → List Pivot → Type 0
AllBuilt rows col j [] = Unit {0}
AllBuilt rows col j (p ∷ ps) = IsBuilt rows col j p × AllBuilt rows col j ps

-- their reduced columns as tests, with their rows
abbrev pub leads : List Pivot → List Lead
leads [] = []
leads (p ∷ ps) = record { vector = has p.reduced; row = p.row } ∷ leads ps

-- the invariant: each pivot is built, their rows are different least rows, and they span what the first j columns span
pub record Built (rows : ℕ) (col : ℕ → Rows) (j : ℕ) (ps : List Pivot) : Type 0 where
  pub each : AllBuilt rows col j ps
  pub echelon : Echelon (leads ps)
  pub spans : SameSpan (vectors (leads ps)) (first_columns col j)

-- what holds of a column on its way
pub record OnWay (rows : ℕ) (col : ℕ → Rows) (j : ℕ) (ps : List Pivot) (now : Left) : Type 0 where
  pub ascends : Ascends 0 rows now.vector
  pub same : InSpan (vectors (leads ps)) (plus (has now.vector) (col j))
  pub uses : Ascends 0 (suc j) now.used
  pub itself : has now.used j ≡ true
  pub makes : has now.vector ≡ total col (has now.used) (suc j)
  pub new : (k : ℕ) → k < j → has now.used k ≡ true → InSpan (first_columns col k) (col k) → ⊥

-- columns used that are below j are below its successor
used_wider : (col : ℕ → Rows) (js : List ℕ) (j : ℕ) → Ascends 0 j js → total col (has js) (suc j) ≡ total col (has js) j
used_wider col js j a = total_upto col (has js) j (suc j) (omega arith) (λ k l. ascends_high js 0 j k a l)

-- one pivot added
pub add_pivot : (rows : ℕ) (col : ℕ → Rows) (j : ℕ) (ps : List Pivot) (p : Pivot) (now : Left) → IsBuilt rows col j p → InSpan (vectors (leads ps)) (has p.reduced)
    → OnWay rows col j ps now → OnWay rows col j ps (record { vector = sum_two rows now.vector p.reduced; used = sum_two (suc j) now.used p.used })
add_pivot rows col j ps p now b i w =
    let wide : Ascends 0 (suc j) p.used = ascends_wider p.used 0 j 0 (suc j) b.uses (omega arith) (omega arith) in
    let v : has (sum_two rows now.vector p.reduced) ≡ plus (has now.vector) (has p.reduced) = has_sum_two rows now.vector p.reduced w.ascends b.ascends in
    let u : has (sum_two (suc j) now.used p.used) ≡ plus (has now.used) (has p.used) = has_sum_two (suc j) now.used p.used w.uses wide in
    record {
      ascends = below_ascends (λ r. differ (has now.vector r) (has p.reduced r)) rows;
      same = rw (v, plus_swap (has now.vector) (has p.reduced) (col j)) (InSpan-plus (vectors (leads ps)) (plus (has now.vector) (col j)) (has p.reduced) w.same i);
      uses = below_ascends (λ r. differ (has now.used r) (has p.used r)) (suc j);
      itself = ap (λ (t : Rows). t j) u ∙ rw (w.itself, ascends_high p.used 0 j j b.uses (omega arith)) refl;
      makes = v ∙ (sum_makes (has now.vector) (has p.reduced) w.makes (b.makes ∙ sym (used_wider col p.used j b.uses)) ∙ sym (ap (λ (t : Rows). total col t (suc j)) u ∙ total_plus col (has now.used) (has p.used) (suc j)));
      new = λ k l h. elim (cases_Bool (has now.used k)) [
        | inl e ↦ w.new k l e
        | inr e ↦ b.new k (let q : differ (has now.used k) (has p.used k) ≡ true = sym (ap (λ (t : Rows). t k) u) ∙ h in rw e at q)
      ];
    }
  where
    sum_makes : (x y : Rows) {s t : Rows} → x ≡ s → y ≡ t → plus x y ≡ plus s t
    sum_makes x y e f = rw (e, f) refl

-- a list that starts with r has r first
starts_at : (r : ℕ) (v : List ℕ) → starts r v ≡ true → (xs : List ℕ) × (v ≡ r ∷ xs)
starts_at r [] h = absurd (false≢true h)
starts_at r (x ∷ xs) h = (xs, rw (eqb-true x r h) refl)

-- no pivot has the least row
abbrev pub Settled : List Pivot → List ℕ → Type 0
Settled [] v = Unit {0}
Settled (p ∷ ps) v = (starts p.row v ≡ false) × Settled ps v

-- a step keeps the invariant, and raises the least row or has come to the end
record Stepped (rows : ℕ) (col : ℕ → Rows) (j : ℕ) (ps qs : List Pivot) (low : ℕ) (before now : Left) : Type 0 where
  way : OnWay rows col j ps now
  higher : Ascends (suc low) rows now.vector ⊎ ((now ≡ before) × Settled qs before.vector)

-- a sum of two columns with one least row has none up to it
pub raise : (rows : ℕ) (p : Pivot) (v : List ℕ) (low : ℕ) → Ascends 0 rows p.reduced → IsLeast (has p.reduced) p.row → Ascends 0 rows v → Ascends low rows v → starts p.row v ≡ true
    → Ascends (suc low) rows (sum_two rows v p.reduced)
raise rows p v low a l b h s =
    let (xs, e) = starts_at p.row v s in
    let c : Ascends low rows (p.row ∷ xs) = subst (λ w. Ascends low rows w) e h in
    ascends_raise (sum_two rows v p.reduced) 0 rows (suc low) (below_ascends (λ r. differ (has v r) (has p.reduced r)) rows)
    (λ k lk. ap (λ (t : Rows). t k) (has_sum_two rows v p.reduced b a) ∙ vanish k xs e c (omega arith))
  where
    vanish : (k : ℕ) (xs : List ℕ) → v ≡ p.row ∷ xs → Ascends low rows (p.row ∷ xs) → k ≤ p.row → differ (has v k) (has p.reduced k) ≡ false
    vanish k xs e c lk = elim (cases_eq k p.row) [
      | inl q ↦
          let z : has p.reduced k ≡ true = subst (λ w. has p.reduced w ≡ true) (sym q) l.on in
          rw (e, eq-eqb k p.row q, z) refl
      | inr ne ↦ rw (e, ascends_low (p.row ∷ xs) p.row rows k (omega arith, c.1, c.2) (omega arith), l.below k (omega arith)) refl
    ]

-- one step over the pivots in order is such a step
step : (rows : ℕ) (col : ℕ → Rows) (j : ℕ) (ps qs : List Pivot) (low : ℕ) (now : Left) → AllBuilt rows col j qs → AllIn (vectors (leads ps)) (vectors (leads qs))
    → OnWay rows col j ps now → Ascends low rows now.vector → Stepped rows col j ps qs low now (reduce_once rows (suc j) qs now)
step rows col j ps [] low now b i w h = record { way = w; higher = inr (refl, tt) }
step rows col j ps (q ∷ qs) low now b i w h = go (starts q.row now.vector) refl (step rows col j ps qs low now b.1 i.1 w h)
  where
    go : (t : Bool) → starts q.row now.vector ≡ t → Stepped rows col j ps qs low now (reduce_once rows (suc j) qs now)
        → Stepped rows col j ps (q ∷ qs) low now (cond t (record { vector = sum_two rows now.vector q.reduced; used = sum_two (suc j) now.used q.used }) (reduce_once rows (suc j) qs now))
    go true e ih = record {
      way = add_pivot rows col j ps q now b.0 i.0 w;
      higher = inl (raise rows q now.vector low b.0.ascends b.0.least w.ascends h e);
    }
    go false e ih = record {
      way = ih.way;
      higher = elim ih.higher [ inl k ↦ inl k | inr k ↦ inr (k.0, (e, k.1)) ];
    }

-- after k steps the least row is at least k, or no pivot has it
record Reduced (rows : ℕ) (col : ℕ → Rows) (j : ℕ) (ps : List Pivot) (k : ℕ) (now : Left) : Type 0 where
  way : OnWay rows col j ps now
  higher : Ascends k rows now.vector ⊎ Settled ps now.vector

-- where no pivot has the least row, no step changes anything
settled_stays : (rows bound : ℕ) (ps : List Pivot) (now : Left) → Settled ps now.vector → reduce_once rows bound ps now ≡ now
settled_stays rows bound [] now s = refl
settled_stays rows bound (p ∷ ps) now s = rw (s.0, settled_stays rows bound ps now s.1) refl

-- a column stays on its way through any number of steps
reduced_times : (rows : ℕ) (col : ℕ → Rows) (j : ℕ) (ps : List Pivot) (now : Left) → AllBuilt rows col j ps → OnWay rows col j ps now → (k : ℕ)
    → Reduced rows col j ps k (reduce_times rows (suc j) ps k now)
reduced_times rows col j ps now b w zero = record { way = w; higher = inl w.ascends }
reduced_times rows col j ps now b w (suc k) = go (reduced_times rows col j ps now b w k)
  where
    go : Reduced rows col j ps k (reduce_times rows (suc j) ps k now) → Reduced rows col j ps (suc k) (reduce_once rows (suc j) ps (reduce_times rows (suc j) ps k now))
    go r = elim r.higher [
      | inr s ↦ subst (λ t. Reduced rows col j ps (suc k) t) (sym (settled_stays rows (suc j) ps (reduce_times rows (suc j) ps k now) s))
          (record { way = r.way; higher = inr s })
      | inl h ↦
          let t = step rows col j ps ps k (reduce_times rows (suc j) ps k now) b (all_in_itself (vectors (leads ps))) r.way h in
          record {
            way = t.way;
            higher = elim t.higher [
              | inl u ↦ inl u
              | inr u ↦ inr (subst (λ (z : Left). Settled ps z.vector) (sym u.0) u.1)
            ];
          }
    ]

-- the empty column is settled
settled_empty : (ps : List Pivot) → Settled ps []
settled_empty [] = tt
settled_empty (p ∷ ps) = (refl, settled_empty ps)

-- where no row is left the column is empty
no_room : (rows : ℕ) (v : List ℕ) → Ascends rows rows v → v ≡ []
no_room rows [] a = refl
no_room rows (x ∷ xs) a = absurd (omega arith)

-- what is left of a column after all steps: no pivot has its least row
pub left_settled : (rows : ℕ) (col : ℕ → Rows) (j : ℕ) (ps : List Pivot) (now : Left) → AllBuilt rows col j ps → OnWay rows col j ps now
    → OnWay rows col j ps (reduce_times rows (suc j) ps rows now) × Settled ps (reduce_times rows (suc j) ps rows now).vector
left_settled rows col j ps now b w =
    let r = reduced_times rows col j ps now b w rows in (
      r.way,
      elim r.higher [
        | inl h ↦ subst (λ v. Settled ps v) (sym (no_room rows (reduce_times rows (suc j) ps rows now).vector h)) (settled_empty ps)
        | inr s ↦ s
      ],
    )

-- the least row of a settled column is no pivot's row
pub settled_fresh : (ps : List Pivot) (r : ℕ) (rest : List ℕ) → Settled ps (r ∷ rest) → Mem r (lead_rows (leads ps)) → ⊥
settled_fresh [] r rest s m = m
settled_fresh (p ∷ ps) r rest s (inl e) = false≢true (sym s.0 ∙ eq-eqb r p.row e)
settled_fresh (p ∷ ps) r rest s (inr m) = settled_fresh ps r rest s.1 m

-- a column that starts on its way
pub on_way_first : (rows : ℕ) (cs : List (List ℕ)) (j : ℕ) (ps : List Pivot) → AllAscend rows cs
    → OnWay rows (column_test cs) j ps (record { vector = column_at cs j; used = j ∷ [] })
on_way_first rows cs j ps a = record {
  ascends = column_ascends rows cs j a;
  same = rw (plus_itself (column_test cs j)) (span_none (vectors (leads ps)));
  uses = (omega arith, omega arith, tt);
  itself = rw (eq-eqb j j refl) refl;
  makes = sym (ap (λ (t : Rows). total (column_test cs) t (suc j)) one ∙ total_only (column_test cs) j (suc j) (omega arith));
  new = λ k l h. absurd (false≢true (sym (first k l) ∙ h));
}
  where
    one : has (j ∷ []) ≡ only j
    one = fun_ext (λ k. go (eqb k j))
      where
        go : (b : Bool) → (b || false) ≡ b
        go true = refl
        go false = refl

    first : (k : ℕ) → k < j → has (j ∷ []) k ≡ false
    first k l = rw (ne_eqb k j (λ e. omega arith)) refl

-- a pivot of the first j columns is one of those up to the next
built_wider : (rows : ℕ) (col : ℕ → Rows) (j : ℕ) (p : Pivot) → IsBuilt rows col j p → IsBuilt rows col (suc j) p
built_wider rows col j p b = record {
  early = let l = b.early in omega arith;
  ascends = b.ascends;
  least = b.least;
  uses = ascends_wider p.used 0 j 0 (suc j) b.uses (omega arith) (omega arith);
  makes = b.makes ∙ sym (used_wider col p.used j b.uses);
  new = b.new;
  pivot = b.pivot;
}

-- and so are all
pub all_wider : (rows : ℕ) (col : ℕ → Rows) (j : ℕ) (ps : List Pivot) → AllBuilt rows col j ps → AllBuilt rows col (suc j) ps
all_wider rows col j [] b = tt
all_wider rows col j (p ∷ ps) b = (built_wider rows col j p b.0, all_wider rows col j ps b.1)
