use Rattle.std.proofs.Common.{ℕ, List, ◌&&◌, ltb, leb, length, sym, ap, ◌∙◌, subst}
use Rattle.obd_base.specs.Lists.{has}
use Rattle.mod2_rank.specs.Linear.{Ascends, column_at}
use Rattle.mod2_rank.specs.PivotRules.{reduced_by}
use Rattle.mod2_rank.specs.Rows.{Rows}
use Rattle.mod2_rank.proofs.Ascending.{ascends_high}
use Rattle.mod2_rank.proofs.Columns.{column_ascends}
use Rattle.mod2_rank.proofs.GivenPivots.{column_in_range, row_decides}
use Rattle.mod2_rank.proofs.GivenVerdict.{lent_read, rows_count, rows_of}
use Rattle.mod2_rank.proofs.RuledPivots.{by_ascends}
use Rattle.mod2_rank.proofs.given_pivots.Reducers.with_pivot.Goals as goal

pub reduce-requires-clause-column : goal.reduce-requires-clause-column
reduce-requires-clause-column c =
    let j = c.args.pivot.column in
    let inside = column_in_range (leb c.args.low j) j (length c.args.columns.now) _ c.if-not-is_in_range.ensures in
    let column = lent_read c.args.columns.now j c.index-columns-pivot.result c.as_slice.result.now inside c.index-columns-pivot.is c.as_slice.ensures in
    subst (λ (x : List ℕ). Ascends 0 c.args.self.rows x) (sym column) (column_ascends c.args.self.rows (rows_of c.args.columns.now) j c.requires.ascend)

pub returns-then-not-has-clause-passes : goal.returns-then-not-has-clause-passes
returns-then-not-has-clause-passes c =
    let j = c.args.pivot.column in
    let n = length c.args.columns.now in
    let range = c.if-not-is_in_range.ensures ∙ ap (λ m. leb c.args.low j && (ltb j n && ltb c.args.pivot.row m)) c.rows.ensures in
    let inside = column_in_range (leb c.args.low j) j n _ range in
    let column = lent_read c.args.columns.now j c.index-columns-pivot.result c.as_slice.result.now inside c.index-columns-pivot.is c.as_slice.ensures in
    c.if-not-has.ensures ∙ (ap (λ (v : Rows). v c.args.pivot.row) c.reduce.ensures.reduced
    ∙ (ap (λ (x : List ℕ). has (reduced_by c.args.self.rows c.args.self.list x) c.args.pivot.row) column ∙ row_decides (leb c.args.low j) (ltb j n) (ltb c.args.pivot.row c.args.self.rows) _ range
    ∙ ap (λ m. leb c.args.low j && (ltb j m && (ltb c.args.pivot.row c.args.self.rows && has (reduced_by c.args.self.rows c.args.self.list (column_at (rows_of c.args.columns.now) j)) c.args.pivot.row))) (sym (rows_count c.args.columns.now))))

pub with_column-requires-clause-inside : goal.with_column-requires-clause-inside
with_column-requires-clause-inside c = λ k h.
    let j = c.args.pivot.column in
    let inside = column_in_range (leb c.args.low j) j (length c.args.columns.now) _ c.if-not-is_in_range.ensures in
    let column = lent_read c.args.columns.now j c.index-columns-pivot.result c.as_slice.result.now inside c.index-columns-pivot.is c.as_slice.ensures in
    let whole : Ascends 0 c.args.self.rows c.as_slice.result.now = subst (λ (x : List ℕ). Ascends 0 c.args.self.rows x) (sym column) (column_ascends c.args.self.rows (rows_of c.args.columns.now) j c.requires.ascend) in
    let asc = by_ascends c.args.self.rows c.args.self.list c.as_slice.result.now whole in
    ap (λ (v : Rows). v k) c.reduce.ensures.reduced ∙ ascends_high (reduced_by c.args.self.rows c.args.self.list c.as_slice.result.now) 0 c.args.self.rows k asc h

pub returns-clause-passes : goal.returns-clause-passes
returns-clause-passes c =
    let j = c.args.pivot.column in
    let n = length c.args.columns.now in
    let range = c.if-not-is_in_range.ensures ∙ ap (λ m. leb c.args.low j && (ltb j n && ltb c.args.pivot.row m)) c.rows.ensures in
    let inside = column_in_range (leb c.args.low j) j n _ range in
    let column = lent_read c.args.columns.now j c.index-columns-pivot.result c.as_slice.result.now inside c.index-columns-pivot.is c.as_slice.ensures in
    c.if-not-has.ensures ∙ (ap (λ (v : Rows). v c.args.pivot.row) c.reduce.ensures.reduced
    ∙ (ap (λ (x : List ℕ). has (reduced_by c.args.self.rows c.args.self.list x) c.args.pivot.row) column ∙ row_decides (leb c.args.low j) (ltb j n) (ltb c.args.pivot.row c.args.self.rows) _ range
    ∙ ap (λ m. leb c.args.low j && (ltb j m && (ltb c.args.pivot.row c.args.self.rows && has (reduced_by c.args.self.rows c.args.self.list (column_at (rows_of c.args.columns.now) j)) c.args.pivot.row))) (sym (rows_count c.args.columns.now))))

pub returns-clause-made : goal.returns-clause-made
returns-clause-made c =
    let j = c.args.pivot.column in
    let inside = column_in_range (leb c.args.low j) j (length c.args.columns.now) _ c.if-not-is_in_range.ensures in
    let column = lent_read c.args.columns.now j c.index-columns-pivot.result c.as_slice.result.now inside c.index-columns-pivot.is c.as_slice.ensures in
    let asc = by_ascends c.args.self.rows c.args.self.list (column_at (rows_of c.args.columns.now) j) (column_ascends c.args.self.rows (rows_of c.args.columns.now) j c.requires.ascend) in
    c.in_ok-with_column.ensures.made (reduced_by c.args.self.rows c.args.self.list (column_at (rows_of c.args.columns.now) j)) asc
    (sym (c.reduce.ensures.reduced ∙ ap (λ (x : List ℕ). has (reduced_by c.args.self.rows c.args.self.list x)) column))
