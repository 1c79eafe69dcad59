use Rattle.std.proofs.Common.{ap, arith, length}
use Rattle.drawing.specs.Links.{AreWays}
use Rattle.drawing.specs.ThinTables.{is_gone}
use Rattle.drawing.proofs.TurnAt.{turn_found}
use Rattle.drawing.proofs.left_turns.turn_at.Goals as goal

pub returns-then-is_free : goal.returns-then-is_free
returns-then-is_free c =
    let d = c.args.layout.now.drawing in
    let gone = is_gone c.args.gone.now in
    let ways : AreWays d gone c.deref.result.now = rw c.deref.ensures.value c.requires.linked.ways_linked in
    turn_found d gone c.args.strand c.args.at c.in_ok-link.link.after c.in_ok-turn.turn c.requires.strand c.if-next-at.false (omega (arith, c.if-next-exits.false, ap length c.exits.ensures))
    (c.in_ok-link.ensures d gone ways c.requires.strand) c.in_ok-turn.ensures (c.is_free.ensures c.if-is_free.true)
