use Rattle.drawing.specs.ThinTables.{is_gone}
use Rattle.drawing.proofs.LinkTables.{between_more, between_near}
use Rattle.drawing.proofs.turn_links.link_sides.Goals as goal
use Rattle.drawing.proofs.turn_links.link_sides.Goals.{then-not-gone-number, else-not-gone-number}

pub loop-number-preserved : goal.loop-number-preserved
loop-number-preserved c =
    let inv = c.loop-number.invariant in
    let gone = is_gone c.args.gone.now in
    elim c.if-not-gone-number.branch [
      | then-not-gone-number w ↦ rw (w.sides-is, w.last-is) (record { linked = w.join.ensures gone inv.linked inv.gone_since; gone_since = between_near gone _ })
      | else-not-gone-number w ↦ rw (w.sides-is, w.last-is) (record { linked = inv.linked; gone_since = between_more gone _ _ inv.gone_since w.if-not-gone-number.false })
    ]
