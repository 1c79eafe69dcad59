use Rattle.std.proofs.Common.{◌∙◌, Some, ap, subst, sym}
use Rattle.std.specs.Prelude.{IfOk}
use Rattle.obd_cli.specs.Decisions.{DecidesDrawing, over_budget, stopped, stopped_last}
use Rattle.obd_cli.proofs.Built.{stopped_decision}
use Rattle.obd_cli.proofs.Moved.{last_is}
use Rattle.obd_cli.proofs.Stops.{stopped_later, stopped_long}
use Rattle.obd_cli.proofs.decide.decided_drawing.Goals as goal

pub decided_last-requires-clause-drawings : goal.decided_last-requires-clause-drawings
decided_last-requires-clause-drawings c = record {
  first = c.args.drawing.drawing;
  first_is = c.requires.first;
  moved = c.in-Ok.ensures.moved;
}

pub returns-in-Ok : goal.returns-in-Ok
returns-in-Ok c =
    let d = c.args.drawing.drawing in
    let limits = c.args.book.now.limits in
    let later = stopped_later limits d c.in-Ok.ensures.within in
    subst (λ stops. IfOk c.decided_last.result (DecidesDrawing c.args.book.now stops)) (ap (stopped_last limits.generators) (last_is d c.in-Ok.moved c.in-Ok.ensures.moved) ∙ sym later) c.decided_last.ensures

pub returns-in-Err-MoveBudget : goal.returns-in-Err-MoveBudget
returns-in-Err-MoveBudget c =
    let d = c.args.drawing.drawing in
    let limits = c.args.book.now.limits in
    let (limit, over, left) = c.in-Err-MoveBudget.ensures.budget c.in-Err-MoveBudget.limit c.in-Err-MoveBudget.weight c.in-Err-MoveBudget.field-0-is in
    stopped_decision c.args.book.now (stopped limits d) (over_budget c.in-Err-MoveBudget.limit c.in-Err-MoveBudget.weight) c.over_budget.result
    (stopped_long limits d over ∙ (ap (λ n. Some (over_budget limits.moves n)) (sym left) ∙ ap (λ n. Some (over_budget n c.in-Err-MoveBudget.weight)) (sym limit))) c.over_budget.ensures
