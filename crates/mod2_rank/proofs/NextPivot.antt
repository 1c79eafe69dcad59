-- One column more: the invariant of the elimination goes on, so each run of it is built.
use Rattle.std.proofs.Common.{◌≡◌, ℕ, zero, suc, ◌<◌, List, [], ◌∷◌, refl, sym, subst, arith, ◌⊎◌, inl, inr}
use Rattle.std.proofs.lemmas.Bool.{cases_eq}
use Rattle.mod2_rank.specs.Rows.{Rows, plus, IsLeast}
use Rattle.mod2_rank.proofs.Vectors.{plus_comm}
use Rattle.obd_base.specs.Lists.{has, Mem}
use Rattle.mod2_rank.specs.Linear.{column_at}
use Rattle.mod2_rank.proofs.Spans.{InSpan, IsPivot, span_within, all_in_more}
use Rattle.mod2_rank.specs.Ascending.{AllAscend}
use Rattle.mod2_rank.proofs.Totals.{first_columns}
use Rattle.mod2_rank.proofs.Echelon.{vectors, lead_rows, left_is_pivot}
use Rattle.mod2_rank.proofs.Ascending.{ascends_between}
use Rattle.mod2_rank.proofs.Columns.{column_test, first_is_least}
use Rattle.mod2_rank.proofs.PureRun.{Pivot, kept, left_of, run}
use Rattle.mod2_rank.proofs.Built.{Built, OnWay, Settled, all_wider, leads, left_settled, on_way_first, settled_fresh}

-- one column more: the invariant goes on, and the column is a pivot column exactly where something is left
pub record Next (rows : ℕ) (col : ℕ → Rows) (j : ℕ) (ps : List Pivot) (v used : List ℕ) : Type 0 where
  pub built : Built rows col (suc j) (kept j v used ps)
  pub fate : ((v ≡ []) × InSpan (first_columns col j) (col j)) ⊎ ((InSpan (first_columns col j) (col j) → ⊥) × ((r : ℕ) × (rest : List ℕ) × (v ≡ r ∷ rest)))

-- the invariant after one column more
pub next_built : (rows : ℕ) (col : ℕ → Rows) (j : ℕ) (ps : List Pivot) (v used : List ℕ) → Built rows col j ps
    → OnWay rows col j ps (record { vector = v; used = used }) → Settled ps v → Next rows col j ps v used
next_built rows col j ps [] used b w s =
    let i : InSpan (vectors (leads ps)) (col j) = w.same in
    let k : InSpan (first_columns col j) (col j) = span_within (first_columns col j) (vectors (leads ps)) (col j) b.spans.there i in
    record {
      built = record {
        each = all_wider rows col j ps b.each;
        echelon = b.echelon;
        spans = record {
          there = all_in_more (first_columns col j) (vectors (leads ps)) (col j) b.spans.there;
          back = (i, b.spans.back);
        };
      };
      fate = inl (refl, k);
    }
next_built rows col j ps (r ∷ rest) used b w s =
    let fresh : Mem r (lead_rows (leads ps)) → ⊥ = settled_fresh ps r rest s in
    let least : IsLeast (has (r ∷ rest)) r = first_is_least rows r rest w.ascends in
    let piv : IsPivot (col j) (first_columns col j) r = left_is_pivot (leads ps) (first_columns col j) (col j) (has (r ∷ rest)) r b.echelon b.spans w.same least fresh in
    let same : InSpan (first_columns col j) (plus (has (r ∷ rest)) (col j)) = span_within (first_columns col j) (vectors (leads ps)) _ b.spans.there w.same in
    record {
      built = record {
        each = (
          record {
            early = omega arith;
            ascends = w.ascends;
            least = least;
            uses = w.uses;
            makes = w.makes;
            new = λ k h. elim (cases_eq k j) [
              | inl e ↦ subst (λ t. InSpan (first_columns col t) (col t) → ⊥) (sym e) piv.new
              | inr ne ↦ w.new k (let l : k < suc j = (ascends_between used 0 (suc j) k w.uses h).1 in omega arith) h
            ];
            pivot = piv;
          },
          all_wider rows col j ps b.each,
        );
        echelon = (least, fresh, b.echelon);
        spans = record {
          there = (inr same, all_in_more (first_columns col j) (vectors (leads ps)) (col j) b.spans.there);
          back = (inr (rw (plus_comm (col j) (has (r ∷ rest))) w.same), all_in_more (vectors (leads ps)) (first_columns col j) (has (r ∷ rest)) b.spans.back);
        };
      };
      fate = inr (piv.new, (r, rest, refl));
    }

-- one column of the run
pub next_of : (rows : ℕ) (cs : List (List ℕ)) (j : ℕ) (ps : List Pivot) → AllAscend rows cs → Built rows (column_test cs) j ps
    → Next rows (column_test cs) j ps (left_of rows cs ps j).vector (left_of rows cs ps j).used
next_of rows cs j ps a b =
    let (w, s) = left_settled rows (column_test cs) j ps (record { vector = column_at cs j; used = j ∷ [] }) b.each (on_way_first rows cs j ps a) in
    next_built rows (column_test cs) j ps (left_of rows cs ps j).vector (left_of rows cs ps j).used b w s

-- each run of the elimination is built
pub run_built : (rows : ℕ) (cs : List (List ℕ)) → AllAscend rows cs → (j : ℕ) → Built rows (column_test cs) j (run rows cs j)
run_built rows cs a zero = record { each = tt; echelon = tt; spans = record { there = tt; back = tt } }
run_built rows cs a (suc j) = (next_of rows cs j (run rows cs j) a (run_built rows cs a j)).built
