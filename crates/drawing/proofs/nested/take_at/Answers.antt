use Rattle.drawing.specs.ThinTables.{is_gone}
use Rattle.drawing.proofs.TurnAt.{links_still, turn_is_gone, turn_more}
use Rattle.drawing.proofs.nested.take_at.Goals as goal

pub returns-clause-linked : goal.returns-clause-linked
returns-clause-linked c =
    let d = c.args.layout.now.drawing in
    let old = is_gone c.args.gone.now in
    let new = is_gone c.mark.new.gone in
    c.unlink_turn.ensures d new (links_still d old new c.in_ok-turn.turn c.in_ok-turn.ensures c.mark.ensures _ _ c.requires.linked)
    (turn_is_gone d old new c.in_ok-turn.turn c.in_ok-turn.ensures c.mark.ensures)

pub returns-clause-taken : goal.returns-clause-taken
returns-clause-taken c = turn_more c.args.layout.now.drawing (is_gone c.args.gone.now) (is_gone c.mark.new.gone) c.in_ok-turn.turn c.in_ok-turn.ensures c.mark.ensures c.requires.embedded
