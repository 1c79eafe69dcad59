use Rattle.std.proofs.Common.{ℕ, List, None, ◌<◌, get_or, length, sym, ap, ◌∙◌, subst, arith}
use Rattle.std.proofs.lemmas.List.{get_or_read}
use Rattle.mod2_rank.specs.GivenPivots.{IsRowTable, Reducing}
use Rattle.mod2_rank.specs.RowWords.{row_in}
use Rattle.mod2_rank.proofs.GivenPivots.{entry_inside, toggled_calls, toggled_free}
use Rattle.mod2_rank.proofs.RowSearch.{toggled_next}
use Rattle.mod2_rank.proofs.given_pivots.Reducers.add.Goals.{in-Some, in_default}
use Rattle.mod2_rank.proofs.given_pivots.Reducers.add.Goals as goal

pub toggle-requires-in-Some : goal.toggle-requires-in-Some
toggle-requires-in-Some c =
    let table = c.self.inside.pivot_of.items in
    let row = get_or c.args.rows.now c.loop-row.row-index 0 in
    let tabled = subst (λ (r : Reducing). IsRowTable r.list table) c.self.view_is c.self.invariant.table in
    let small : row < length table = omega (arith, c.requires.rows c.loop-row.row-index 0 c.loop-row-test.true, ap (λ (r : Reducing). r.rows) c.self.view_is) in
    let inside = entry_inside c.args.self.now.list table tabled row c.in-Some.pivot (sym (get_or_read table row c.index.result.now small c.index.ensures None) ∙ c.in-Some.is) in
    omega (arith, inside, c.requires.room, c.loop-row.invariant.room)

pub loop-row-preserved : goal.loop-row-preserved
loop-row-preserved c =
    let table = c.self.inside.pivot_of.items in
    let row = get_or c.args.rows.now c.loop-row.row-index 0 in
    let tabled = subst (λ (r : Reducing). IsRowTable r.list table) c.self.view_is c.self.invariant.table in
    let small : row < length table = omega (arith, c.requires.rows c.loop-row.row-index 0 c.loop-row-test.true, ap (λ (r : Reducing). r.rows) c.self.view_is) in
    let entry = sym (get_or_read table row c.index.result.now small c.index.ensures None) in
    record {
      left = c.toggle.ensures.room ∙ c.loop-row.invariant.left;
      room = elim c.match-index.branch [
        | in-Some w ↦ ap length w.called-is ∙ (w.toggle-in-Some.ensures.room ∙ c.loop-row.invariant.room)
        | in_default w ↦ ap length w.called-is ∙ c.loop-row.invariant.room
      ];
      rows = toggled_next c.args.rows.now c.loop-row.row-index (row_in c.args.left.now) (row_in c.loop-row.left) (row_in c.toggle.new.self) c.loop-row-test.true c.loop-row.invariant.rows c.toggle.ensures.rows;
      called = elim c.match-index.branch [
        | in-Some w ↦ ap (λ (s : List ℕ). row_in s) w.called-is ∙ (w.toggle-in-Some.ensures.rows
            ∙ toggled_calls c.args.self.now.list table tabled row _ (row_in c.loop-row.left) (row_in c.toggle.new.self) (row_in c.loop-row.called) (entry ∙ w.in-Some.is) c.loop-row.invariant.called c.toggle.ensures.rows)
        | in_default w ↦ ap (λ (s : List ℕ). row_in s) w.called-is
            ∙ toggled_free c.args.self.now.list table tabled row (row_in c.loop-row.left) (row_in c.toggle.new.self) (row_in c.loop-row.called) (entry ∙ w.in_default.is) c.loop-row.invariant.called c.toggle.ensures.rows
      ];
    }
