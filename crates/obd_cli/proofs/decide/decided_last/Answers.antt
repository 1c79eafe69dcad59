use Rattle.std.proofs.Common.{◌<◌, ◌∙◌, Some, ap, length, subst, sym}
use Rattle.page_surface.specs.Drawing.{Drawing}
use Rattle.drawing.specs.Points.{generators}
use Rattle.obd_cli.specs.Decisions.{over_limit, stopped_last}
use Rattle.obd_cli.proofs.Built.{stopped_decision}
use Rattle.obd_cli.proofs.Stops.{stopped_over}
use Rattle.obd_cli.proofs.decide.decided_last.Goals as goal

pub returns-in-Err-GeneratorLimit : goal.returns-in-Err-GeneratorLimit
returns-in-Err-GeneratorLimit c =
    let limit = c.args.book.now.limits.generators in
    let last = c.args.moved.last in
    let (over, more) = c.in-Err-GeneratorLimit.ensures.over c.in-Err-GeneratorLimit.over c.in-Err-GeneratorLimit.field-0-is in
    stopped_decision c.args.book.now (stopped_last limit last) (over_limit c.in-Err-GeneratorLimit.over) c.over_limit.result
    (stopped_over limit last (subst (λ (d : Drawing). limit < length (generators d)) c.drawing.ensures more) ∙ ap (λ n. Some (over_limit n)) (sym over)) c.over_limit.ensures
