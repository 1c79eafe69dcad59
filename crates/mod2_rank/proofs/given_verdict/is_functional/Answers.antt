use Rattle.std.proofs.Common.{◌∙◌, ◌-◌, ◌&&◌, sym, ap}
use Rattle.std.specs.List.{list_all}
use Rattle.obd_base.specs.Lists.{has}
use Rattle.mod2_rank.specs.Linear.{meets_evenly}
use Rattle.mod2_rank.specs.Rows.{Rows, odd_times, plus}
use Rattle.mod2_rank.proofs.ColumnSteps.{ascends_all}
use Rattle.mod2_rank.proofs.GivenVerdict.{ascend_true, rows_of}
use Rattle.mod2_rank.proofs.Reducing.{odd_times_ascending}
use Rattle.mod2_rank.proofs.given_verdict.is_functional.Goals as goal

pub add-requires : goal.add-requires
add-requires c = λ k d l.
    ascends_all c.args.functional.now 0 c.args.rows _ (ascend_true c.args.functional.now 0 c.args.rows (sym c.if-not-do_ascend.ensures)) c.in_ok-set.ensures.room k d l

pub all_even-requires-clause-set : goal.all_even-requires-clause-set
all_even-requires-clause-set c =
    c.add.ensures.rows ∙ (ap (λ (v : Rows). plus v (odd_times c.args.functional.now)) c.in_ok-set.ensures.empty
    ∙ odd_times_ascending c.args.functional.now 0 c.args.rows (ascend_true c.args.functional.now 0 c.args.rows (sym c.if-not-do_ascend.ensures)))

pub returns-then-not-has : goal.returns-then-not-has
returns-then-not-has c =
    let same = c.add.ensures.rows ∙ (ap (λ (v : Rows). plus v (odd_times c.args.functional.now)) c.in_ok-set.ensures.empty
    ∙ odd_times_ascending c.args.functional.now 0 c.args.rows (ascend_true c.args.functional.now 0 c.args.rows (sym c.if-not-do_ascend.ensures))) in
    let out = c.if-not-has.ensures ∙ ap (λ (v : Rows). v (c.args.rows - 1)) same in
    ap (λ b. b && list_all (meets_evenly c.args.functional.now) (rows_of c.args.columns.now)) out
    ∙ ap (λ b. b && (has c.args.functional.now (c.args.rows - 1) && list_all (meets_evenly c.args.functional.now) (rows_of c.args.columns.now))) c.if-not-do_ascend.ensures

pub returns : goal.returns
returns c =
    let same = c.add.ensures.rows ∙ (ap (λ (v : Rows). plus v (odd_times c.args.functional.now)) c.in_ok-set.ensures.empty
    ∙ odd_times_ascending c.args.functional.now 0 c.args.rows (ascend_true c.args.functional.now 0 c.args.rows (sym c.if-not-do_ascend.ensures))) in
    let in_set = c.if-not-has.ensures ∙ ap (λ (v : Rows). v (c.args.rows - 1)) same in
    c.all_even.ensures ∙ (ap (λ b. b && list_all (meets_evenly c.args.functional.now) (rows_of c.args.columns.now)) in_set
    ∙ ap (λ b. b && (has c.args.functional.now (c.args.rows - 1) && list_all (meets_evenly c.args.functional.now) (rows_of c.args.columns.now))) c.if-not-do_ascend.ensures)
