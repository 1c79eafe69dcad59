use Rattle.std.proofs.Common.{ℕ, List, length, sym, ap, ◌∙◌, subst, arith}
use Rattle.obd_base.specs.Lists.{has}
use Rattle.mod2_rank.specs.GivenPivots.{AreEchelon, Reducing, calls}
use Rattle.mod2_rank.specs.Linear.{Ascends}
use Rattle.mod2_rank.specs.Rows.{IsLeast, Rows, odd_times, plus}
use Rattle.mod2_rank.specs.RowWords.{row_in}
use Rattle.mod2_rank.proofs.ColumnSteps.{ascends_all}
use Rattle.mod2_rank.proofs.GivenPivots.{called_clear, called_same, calls_inside, calls_none, column_read, fit_all, left_by, left_by_is, least_above, left_still, paired_size}
use Rattle.mod2_rank.proofs.Reducing.{odd_times_ascending}
use Rattle.mod2_rank.proofs.given_pivots.Reducers.reduce.Goals as goal

pub add-requires-clause-rows : goal.add-requires-clause-rows
add-requires-clause-rows c = λ k d l. ascends_all c.args.column.now 0 c.args.self.now.rows c.args.self.now.rows c.requires.column (omega arith) k d l

pub add-requires-clause-called : goal.add-requires-clause-called
add-requires-clause-called c = c.requires.none_called ∙ sym (ap (calls c.args.self.now.list) c.requires.empty ∙ calls_none c.args.self.now.list)

pub loop-pivot-init : goal.loop-pivot-init
loop-pivot-init c = record {
  left = c.add.ensures.left;
  room = c.add.ensures.room;
  within = omega arith;
  called = c.add.ensures.called;
  clear = λ k l. absurd (omega arith);
  same = ap (left_by c.args.self.now.list)
      (c.add.ensures.rows ∙ (ap (λ (v : Rows). plus v (odd_times c.args.column.now)) c.requires.empty ∙ odd_times_ascending c.args.column.now 0 c.args.self.now.rows c.requires.column));
}

pub list-requires : goal.list-requires
list-requires c =
    let ps = c.args.self.now.list in
    let size = paired_size c.self.inside.pivot_rows.items c.self.inside.columns.lists c.self.invariant.whole in
    let least = subst (λ (v : Rows). IsLeast v c.in-Some.pivot) (ap (λ (s : List ℕ). row_in s) c.least_from.ensures.same ∙ c.loop-pivot.invariant.called) c.in-Some.ensures.least in
    let inside = calls_inside ps (row_in c.loop-pivot.left) c.in-Some.pivot least.on in
    omega (arith, inside, size, ap (λ (r : Reducing). length r.list) c.self.view_is)

pub add-requires-in-Some-clause-rows : goal.add-requires-in-Some-clause-rows
add-requires-in-Some-clause-rows c = λ k d l.
    let ps = c.args.self.now.list in
    let least = subst (λ (v : Rows). IsLeast v c.in-Some.pivot) (ap (λ (s : List ℕ). row_in s) c.least_from.ensures.same ∙ c.loop-pivot.invariant.called) c.in-Some.ensures.least in
    let ok = subst (λ (r : Reducing). AreEchelon r.rows r.list) c.self.view_is c.self.invariant.echelon in
    let inside = calls_inside ps (row_in c.loop-pivot.left) c.in-Some.pivot least.on in
    let column = column_read c.self.inside.pivot_rows.items c.self.inside.columns.lists ps c.in-Some.pivot c.list.result.now c.self.invariant.whole (ap (λ (r : Reducing). r.list) c.self.view_is) c.list.ensures in
    ascends_all c.list.result.now 0 c.args.self.now.rows c.args.self.now.rows (subst (λ (x : List ℕ). Ascends 0 c.args.self.now.rows x) (sym column) (ok.ascend c.in-Some.pivot inside)) (omega arith) k d l

pub overflow_add-low : goal.overflow_add-low
overflow_add-low c =
    let ps = c.args.self.now.list in
    let size = paired_size c.self.inside.pivot_rows.items c.self.inside.columns.lists c.self.invariant.whole in
    let least = subst (λ (v : Rows). IsLeast v c.in-Some.pivot) (ap (λ (s : List ℕ). row_in s) c.least_from.ensures.same ∙ c.loop-pivot.invariant.called) c.in-Some.ensures.least in
    let inside = calls_inside ps (row_in c.loop-pivot.left) c.in-Some.pivot least.on in
    omega (arith, inside, size, c.self.invariant.whole, c.self.invariant.few, ap (λ (r : Reducing). length r.list) c.self.view_is)

pub loop-pivot-smaller : goal.loop-pivot-smaller
loop-pivot-smaller c =
    let ps = c.args.self.now.list in
    let least = subst (λ (v : Rows). IsLeast v c.in-Some.pivot) (ap (λ (s : List ℕ). row_in s) c.least_from.ensures.same) c.in-Some.ensures.least in
    let called = subst (λ (v : Rows). IsLeast v c.in-Some.pivot) c.loop-pivot.invariant.called least in
    let inside = calls_inside ps (row_in c.loop-pivot.left) c.in-Some.pivot called.on in
    omega (arith, inside, least_above (row_in c.loop-pivot.called) c.loop-pivot.low c.in-Some.pivot c.loop-pivot.invariant.clear least)

pub loop-pivot-preserved : goal.loop-pivot-preserved
loop-pivot-preserved c =
    let ps = c.args.self.now.list in
    let least = subst (λ (v : Rows). IsLeast v c.in-Some.pivot) (ap (λ (s : List ℕ). row_in s) c.least_from.ensures.same ∙ c.loop-pivot.invariant.called) c.in-Some.ensures.least in
    let ok = subst (λ (r : Reducing). AreEchelon r.rows r.list) c.self.view_is c.self.invariant.echelon in
    let inside = calls_inside ps (row_in c.loop-pivot.left) c.in-Some.pivot least.on in
    let column = column_read c.self.inside.pivot_rows.items c.self.inside.columns.lists ps c.in-Some.pivot c.list.result.now c.self.invariant.whole (ap (λ (r : Reducing). r.list) c.self.view_is) c.list.ensures in
    let asc : Ascends 0 c.args.self.now.rows c.list.result.now = subst (λ (x : List ℕ). Ascends 0 c.args.self.now.rows x) (sym column) (ok.ascend c.in-Some.pivot inside) in
    let added = c.add-in-Some.ensures.rows ∙ ap (plus (row_in c.loop-pivot.left)) (odd_times_ascending c.list.result.now 0 c.args.self.now.rows asc ∙ ap (λ (x : List ℕ). has x) column) in
    record {
      left = c.add-in-Some.ensures.left ∙ c.loop-pivot.invariant.left;
      room = c.add-in-Some.ensures.room ∙ (ap length c.least_from.ensures.same ∙ c.loop-pivot.invariant.room);
      within = omega (arith, inside);
      called = c.add-in-Some.ensures.called;
      clear = λ l h. ap (λ (v : Rows). v l) c.add-in-Some.ensures.called ∙ called_clear c.args.self.now.rows ps ok (row_in c.loop-pivot.left) (row_in c.add-in-Some.new.left) c.in-Some.pivot least added l h;
      same = called_same c.args.self.now.rows ps ok (row_in c.loop-pivot.left) (row_in c.add-in-Some.new.left) c.in-Some.pivot least added ∙ c.loop-pivot.invariant.same;
    }

pub returns-clause-reduced : goal.returns-clause-reduced
returns-clause-reduced c =
    let ps = c.args.self.now.list in
    let ok = subst (λ (r : Reducing). AreEchelon r.rows r.list) c.self.view_is c.self.invariant.echelon in
    let free = sym c.loop-pivot.invariant.called ∙ (sym (ap (λ (s : List ℕ). row_in s) c.least_from.ensures.same) ∙ c.in_default.ensures.none) in
    sym (left_still ps (row_in c.loop-pivot.left) free) ∙ (c.loop-pivot.invariant.same
    ∙ sym (left_by_is c.args.self.now.rows ps c.args.column.now (fit_all c.args.self.now.rows ps ok.ascend) c.requires.column))
