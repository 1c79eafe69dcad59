use Rattle.std.proofs.Common.{List, ℕ, Option, Some, None, ◌≡◌, ◌+◌, ◌<◌, [], ◌∷◌, ◌++◌, length, map, set, refl, sym, ap, subst, ◌∙◌, arith}
use Rattle.std.proofs.lemmas.List.{length-map, length-set}
use Rattle.obd_base.specs.declared.points.Column.{Column}
use Rattle.mod2_rank.specs.declared.outcome.Pivot.{Pivot}
use Rattle.mod2_rank.specs.Linear.{Ascends, column_at}
use Rattle.mod2_rank.specs.Reduction.{IsPivotTable, entry_of, list_of}
use Rattle.mod2_rank.specs.RowWords.{row_in}
use Rattle.mod2_rank.specs.Written.{verdict_of}
use Rattle.mod2_rank.specs.Rows.{none}
use Rattle.mod2_rank.proofs.Columns.{column_ascends}
use Rattle.mod2_rank.proofs.PivotLists.{Pivots, concluded, least_inside, left_as, map_push, outcome_as, pivots_as, pivots_more, pivots_same, pivots_table, pivots_verdict, read_map}
use Rattle.mod2_rank.proofs.elimination.eliminate.Goals as goal

-- the rows of the columns
abbrev rows_of : List Column → List (List ℕ)
rows_of columns = map (λ (c : Column). c.rows) columns

pub reduce-requires-clause-column : goal.reduce-requires-clause-column
reduce-requires-clause-column c =
    let cs = rows_of c.args.columns.now in
    let size = ap length c.as_slice-table.ensures.value ∙ c.loop-number.invariant.size in
    let column = c.as_slice-rows_of.ensures ∙ read_map (λ (c : Column). c.rows) c.args.columns.now c.loop-number.number c.index-columns-number.result [] c.loop-number-test.true c.index-columns-number.is in
    subst (λ n. Ascends 0 n c.as_slice-rows_of.result.now) (sym size) (subst (λ xs. Ascends 0 c.args.rows xs) (sym column) (column_ascends c.args.rows cs c.loop-number.number c.requires.ascend))

pub reduce-requires-clause-table : goal.reduce-requires-clause-table
reduce-requires-clause-table c =
    let size = ap length c.as_slice-table.ensures.value ∙ c.loop-number.invariant.size in
    let table = pivots_table c.args.rows (rows_of c.args.columns.now) c.loop-number.number _ _ _ _ _ c.loop-number.invariant.pivots in
    subst (λ (t : List (Option ℕ)). IsPivotTable (length c.as_slice-table.result.now) c.loop-number.reduced.lists t) (sym c.as_slice-table.ensures.value)
    (subst (λ n. IsPivotTable n c.loop-number.reduced.lists c.loop-number.pivot_of.items) (sym size) table)

pub take_rows-requires-clause-inside : goal.take_rows-requires-clause-inside
take_rows-requires-clause-inside c = λ k l.
    let size = ap length c.as_slice-table.ensures.value ∙ c.loop-number.invariant.size in
    let left = rw (c.in-Some.is) at c.in_ok-row.ensures.left in
    left.inside k (omega (arith, size, l))

pub take_rows-requires-clause-start : goal.take_rows-requires-clause-start
take_rows-requires-clause-start c =
    let size = ap length c.as_slice-table.ensures.value ∙ c.loop-number.invariant.size in
    let left = rw (c.in-Some.is) at c.in_ok-row.ensures.left in
    let least = rw (c.in-Some.is) at c.in_ok-row.ensures.least in
    least_inside c.args.rows (row_in c.reduce.new.left) c.in-Some.row (λ k l. left.inside k (omega (arith, size, l))) least

pub index_mut-requires : goal.index_mut-requires
index_mut-requires c =
    let size = ap length c.as_slice-table.ensures.value ∙ c.loop-number.invariant.size in
    let left = rw (c.in-Some.is) at c.in_ok-row.ensures.left in
    let least = rw (c.in-Some.is) at c.in_ok-row.ensures.least in
    let inside = least_inside c.args.rows (row_in c.reduce.new.left) c.in-Some.row (λ k l. left.inside k (omega (arith, size, l))) least in
    omega (arith, inside, c.loop-number.invariant.size, c.loop-number.pivot_of.ok.0)

pub loop-number-preserved : goal.loop-number-preserved
loop-number-preserved c =
    let cs = rows_of c.args.columns.now in
    let size = ap length c.as_slice-table.ensures.value ∙ c.loop-number.invariant.size in
    let column = c.as_slice-rows_of.ensures ∙ read_map (λ (c : Column). c.rows) c.args.columns.now c.loop-number.number c.index-columns-number.result [] c.loop-number-test.true c.index-columns-number.is in
    let left = rw (c.in-Some.is) at c.in_ok-row.ensures.left in
    let least = rw (c.in-Some.is) at c.in_ok-row.ensures.least in
    let new = rw (c.in-Some.is) at c.in_ok-row.ensures.new in
    let inside = least_inside c.args.rows (row_in c.reduce.new.left) c.in-Some.row (λ k l. left.inside k (omega (arith, size, l))) least in
    let here : c.loop-number.number < length cs = omega (arith, c.loop-number-test.true, length-map c.args.columns.now (λ (c : Column). c.rows)) in
    let rws = map (λ (p : Pivot). p.row) c.loop-number.pivots.items in
    let us = c.reduce.new.added.growing in
    let w = c.take_rows.new.reduced.growing in
    let columns = map (λ (p : Pivot). p.column) c.loop-number.pivots.items in
    let count : length c.as_slice.result.now ≡ length columns = ap length c.as_slice.ensures.value ∙ sym (length-map c.loop-number.pivots.items (λ (p : Pivot). p.column)) in
    record {
      room = omega (arith, c.loop-number.invariant.room, c.in_ok-row.ensures.room, c.in_ok-take_rows.ensures.room);
      empty = c.in_ok-take_rows.ensures.empty;
      size = length-set c.loop-number.pivot_of.items c.in-Some.row _ ∙ c.loop-number.invariant.size;
      fresh_reduced = c.in_ok-close.ensures.growing;
      fresh_added = c.in_ok-close-2.ensures.growing;
      pivots =
          pivots_as c.args.rows cs (c.loop-number.number + 1)
          (ap (λ (ps : List Pivot). map (λ (p : Pivot). p.column) ps) c.in_ok-push.ensures.items ∙ map_push (λ (p : Pivot). p.column) c.loop-number.pivots.items _)
          (ap (λ (ps : List Pivot). map (λ (p : Pivot). p.row) ps) c.in_ok-push.ensures.items ∙ map_push (λ (p : Pivot). p.row) c.loop-number.pivots.items _)
          (c.in_ok-close.ensures.whole ∙ ap (λ (ls : List (List ℕ)). ls ++ w ∷ []) c.in_ok-take_rows.ensures.whole)
          (c.in_ok-close-2.ensures.whole ∙ ap (λ (ls : List (List ℕ)). ls ++ us ∷ []) c.in_ok-row.ensures.whole)
          (ap (λ n. set c.loop-number.pivot_of.items c.in-Some.row (Some n)) count)
          (pivots_more c.args.rows cs c.loop-number.number columns rws c.loop-number.reduced.lists c.loop-number.added.lists c.loop-number.pivot_of.items
          c.loop-number.invariant.pivots us (row_in c.reduce.new.left) c.in-Some.row w c.requires.ascend here
          (left_as (length c.as_slice-table.result.now) c.args.rows c.as_slice-rows_of.result.now (column_at cs c.loop-number.number) (length c.loop-number.reduced.lists)
          (list_of c.loop-number.reduced.lists) us (row_in c.reduce.new.left) size column left)
          least
          (subst (λ (t : List (Option ℕ)). entry_of t c.in-Some.row ≡ None) c.as_slice-table.ensures.value new)
          c.in_ok-take_rows.ensures.ascends c.in_ok-take_rows.ensures.same
          (omega (arith, inside, c.loop-number.invariant.size)));
    }

pub loop-number-preserved-in_default : goal.loop-number-preserved-in_default
loop-number-preserved-in_default c =
    let cs = rows_of c.args.columns.now in
    let size = ap length c.as_slice-table.ensures.value ∙ c.loop-number.invariant.size in
    let column = c.as_slice-rows_of.ensures ∙ read_map (λ (c : Column). c.rows) c.args.columns.now c.loop-number.number c.index-columns-number.result [] c.loop-number-test.true c.index-columns-number.is in
    let left = rw (c.in_default.is) at c.in_ok-row.ensures.nothing in
    let gone = rw (c.in_default.is) at c.in_ok-row.ensures.empty in
    let here : c.loop-number.number < length cs = omega (arith, c.loop-number-test.true, length-map c.args.columns.now (λ (c : Column). c.rows)) in
    let columns = map (λ (p : Pivot). p.column) c.loop-number.pivots.items in
    let rws = map (λ (p : Pivot). p.row) c.loop-number.pivots.items in
    let us = c.reduce.new.added.growing in
    record {
      room = omega (arith, c.loop-number.invariant.room, c.in_ok-row.ensures.room);
      empty = gone;
      size = c.loop-number.invariant.size;
      fresh_reduced = c.loop-number.invariant.fresh_reduced;
      fresh_added = c.restart.ensures.growing;
      pivots =
          pivots_as c.args.rows cs (c.loop-number.number + 1) refl refl refl (c.restart.ensures.whole ∙ c.in_ok-row.ensures.whole) refl
          (pivots_same c.args.rows cs c.loop-number.number columns rws c.loop-number.reduced.lists c.loop-number.added.lists c.loop-number.pivot_of.items
          c.loop-number.invariant.pivots us c.requires.ascend here
          (left_as (length c.as_slice-table.result.now) c.args.rows c.as_slice-rows_of.result.now (column_at cs c.loop-number.number) (length c.loop-number.reduced.lists)
          (list_of c.loop-number.reduced.lists) us none size column left));
    }

pub verdict-requires-clause-table : goal.verdict-requires-clause-table
verdict-requires-clause-table c =
    let table = pivots_table c.args.rows (rows_of c.args.columns.now) c.loop-number.number _ _ _ _ _ c.loop-number.invariant.pivots in
    rw (c.as_slice-2.ensures.value) (subst (λ n. IsPivotTable n c.loop-number.reduced.lists c.loop-number.pivot_of.items) (sym c.loop-number.invariant.size) table)

pub verdict-requires-clause-early : goal.verdict-requires-clause-early
verdict-requires-clause-early c = λ l a h m.
    c.loop-number.invariant.pivots.found.early l (omega (arith, h, c.loop-number.invariant.pivots.added_size)) a m

pub returns : goal.returns
returns c =
    let cs = rows_of c.args.columns.now in
    let columns = map (λ (p : Pivot). p.column) c.loop-number.pivots.items in
    let found = map (λ (p : Pivot). p.row) c.loop-number.pivots.items in
    let reduced = c.loop-number.reduced.lists in
    let added = c.loop-number.added.lists in
    let table = c.loop-number.pivot_of.items in
    let end : c.loop-number.number ≡ length cs = omega (arith, c.loop-number-test.false, c.loop-number.auto.number-end, length-map c.args.columns.now (λ (c : Column). c.rows)) in
    let pivots = subst (λ i. Pivots c.args.rows cs i columns found reduced added table) end c.loop-number.invariant.pivots in
    let size : length c.as_slice-found.result.now ≡ length c.from_vec.result = ap length (c.as_slice-found.ensures.value ∙ sym c.from_vec.ensures) in
    let verdict =
    c.in_ok-verdict.ensures
    ∙ (ap (λ (ps : List Pivot). verdict_of (map (λ (p : Pivot). p.column) ps) reduced added c.as_slice-2.result.now) c.as_slice-found.ensures.value
    ∙ ap (verdict_of columns reduced added) c.as_slice-2.ensures.value) in
    concluded c.args.rows cs c.from_vec.result _ c.in_ok-verdict.verdict c.requires.ascend size
    (outcome_as c.args.rows cs (ap (λ (ps : List Pivot). map (λ (p : Pivot). p.column) ps) c.from_vec.ensures) (ap (λ (ps : List Pivot). map (λ (p : Pivot). p.row) ps) c.from_vec.ensures) verdict
    (pivots_verdict c.args.rows cs columns found reduced added table c.requires.some c.requires.ascend pivots c.loop-number.invariant.size))
