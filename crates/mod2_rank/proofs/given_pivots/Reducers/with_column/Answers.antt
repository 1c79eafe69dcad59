use Rattle.std.proofs.Common.{ℕ, List, Some, [], ◌∷◌, ◌++◌, ◌≡◌, length, set, sym, ap, ◌∙◌, subst, arith, length-append}
use Rattle.std.proofs.lemmas.List.{length-set}
use Rattle.mod2_rank.specs.GivenPivots.{AreEchelon, IsRowTable, Reducing, calls}
use Rattle.mod2_rank.specs.Linear.{Ascends}
use Rattle.mod2_rank.specs.PivotRules.{Reducer}
use Rattle.mod2_rank.specs.Rows.{Rows}
use Rattle.mod2_rank.specs.RowWords.{row_in}
use Rattle.mod2_rank.proofs.Ascending.{same_ascending}
use Rattle.mod2_rank.proofs.GivenPivots.{echelon_push, paired_grown, paired_size, reducing_is, row_is_free, table_push}
use Rattle.mod2_rank.proofs.given_pivots.Reducers.with_column.Goals as goal

pub invariant_of-result : goal.invariant_of-result
invariant_of-result c =
    let ps = c.args.self.list in
    let rs = c.self.inside.pivot_rows.items in
    let cs = c.self.inside.columns.lists in
    let table = c.self.inside.pivot_of.items in
    let w = c.take_rows.new.reduced.growing in
    let p : Reducer = record { row = c.args.row; column = c.take_rows.new.reduced.growing } in
    let size = paired_size rs cs c.self.invariant.whole in
    let rows : length c.self.inside.pivot_of.items ≡ c.args.self.rows = ap (λ (r : Reducing). r.rows) c.self.view_is in
    let columns = c.in_ok-close.ensures.whole ∙ ap (λ (ds : List (List ℕ)). ds ++ w ∷ []) c.in_ok-take_rows.ensures.whole in
    let list = paired_grown rs c.push.new.self.items cs c.close.new.self.lists ps c.args.row w c.self.invariant.whole (ap (λ (r : Reducing). r.list) c.self.view_is) c.in_ok-push.ensures.items columns in
    let ok = subst (λ (r : Reducing). AreEchelon r.rows r.list) c.self.view_is c.self.invariant.echelon in
    let tabled = subst (λ (r : Reducing). IsRowTable r.list table) c.self.view_is c.self.invariant.table in
    let free = row_is_free ps (row_in c.args.left.now) c.args.row c.requires.free c.requires.own in
    let grown = length-set table c.args.row (Some c.count-number.result) ∙ rows in
    let all = ap (λ (r : Reducing). length r.list) c.self.view_is in
    record {
      few_rows = omega (arith, c.self.invariant.few_rows, length-set table c.args.row (Some c.count-number.result));
      few = omega (arith, c.requires.few, ap length c.in_ok-push.ensures.items, length-append rs (c.args.row ∷ []), size, all, c.self.invariant.whole);
      whole = omega (arith, ap length c.in_ok-push.ensures.items, length-append rs (c.args.row ∷ []), ap length columns, length-append cs (w ∷ []), c.self.invariant.whole);
      fresh = c.in_ok-close.ensures.growing;
      echelon = subst (λ (qs : List Reducer). AreEchelon (length (set table c.args.row (Some c.count-number.result))) qs) (sym list) (subst (λ n. AreEchelon n (ps ++ p ∷ [])) (sym grown)
          (echelon_push ps p c.args.self.rows ok (subst (λ n. Ascends 0 n w) c.rows-rows.ensures c.in_ok-take_rows.ensures.ascends) (ap (calls ps) c.in_ok-take_rows.ensures.same ∙ c.requires.free)
          (ap (λ (v : Rows). v c.args.row) c.in_ok-take_rows.ensures.same ∙ c.requires.own)));
      table = subst (λ (qs : List Reducer). IsRowTable qs (set table c.args.row (Some c.count-number.result))) (sym list)
          (subst (λ n. IsRowTable (ps ++ p ∷ []) (set table c.args.row (Some n))) (sym c.count-number.ensures) (table_push ps p table tabled (omega (arith, c.requires.row, rows)) free));
    }

pub returns-clause-made : goal.returns-clause-made
returns-clause-made c = λ column asc same.
    let rs = c.self.inside.pivot_rows.items in
    let cs = c.self.inside.columns.lists in
    let w = c.take_rows.new.reduced.growing in
    let columns = c.in_ok-close.ensures.whole ∙ ap (λ (ds : List (List ℕ)). ds ++ w ∷ []) c.in_ok-take_rows.ensures.whole in
    let list = paired_grown rs c.push.new.self.items cs c.close.new.self.lists c.args.self.list c.args.row w c.self.invariant.whole (ap (λ (r : Reducing). r.list) c.self.view_is) c.in_ok-push.ensures.items columns in
    let one : c.take_rows.new.reduced.growing ≡ column = same_ascending w column 0 c.args.self.rows (subst (λ n. Ascends 0 n w) c.rows-rows.ensures c.in_ok-take_rows.ensures.ascends) asc (λ k. ap (λ (v : Rows). v k) (c.in_ok-take_rows.ensures.same ∙ sym same)) in
    reducing_is (length-set c.self.inside.pivot_of.items c.args.row (Some c.count-number.result) ∙ ap (λ (r : Reducing). r.rows) c.self.view_is)
    (list ∙ ap (λ (d : List ℕ). c.args.self.list ++ record { row = c.args.row; column = d } ∷ []) one)
