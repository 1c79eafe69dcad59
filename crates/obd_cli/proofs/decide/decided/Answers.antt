use Rattle.obd_cli.specs.Decisions.{stopped}
use Rattle.obd_cli.proofs.Built.{few_decisions, words_decision}
use Rattle.obd_cli.proofs.decide.decided.Goals as goal

pub returns-in-Ok-clause-decided : goal.returns-in-Ok-clause-decided
returns-in-Ok-clause-decided c =
    words_decision c.args.book.now c.args.surface.now.slid c.decided_drawing.result c.in-Ok.drawing.drawing c.in-Ok.ensures.first c.in-Ok.ensures.words c.in-Ok.ensures.tight c.decided_drawing.ensures

pub returns-in-Ok-clause-few : goal.returns-in-Ok-clause-few
returns-in-Ok-clause-few c =
    few_decisions c.args.book.now c.in-Ok.drawing.drawing c.args.surface.now.slid c.requires.surface.surface c.in-Ok.ensures.first c.in-Ok.ensures.few c.decided_drawing.result
    (stopped c.args.book.now.limits c.in-Ok.drawing.drawing) c.decided_drawing.ensures
