use Rattle.std.proofs.Common.{◌+◌, refl}
use Rattle.boundary_map.proofs.Loops.{moved_no, moved_yes}
use Rattle.boundary_map.proofs.rules.moved.Goals as goal
use Rattle.boundary_map.proofs.rules.moved.Goals.{then-y-arc, else-y-arc}

pub loop-arc-preserved : goal.loop-arc-preserved
loop-arc-preserved c = elim c.if-y-arc.branch [
  | then-y-arc w ↦ moved_yes c.args.y.now c.args.x.now c.loop-arc.arc c.loop-arc.moved (c.loop-arc.arc + 1) c.if-y-arc.moved c.loop-arc.invariant w.if-y-arc.true refl w.moved-is
  | else-y-arc w ↦ moved_no c.args.y.now c.args.x.now c.loop-arc.arc c.loop-arc.moved (c.loop-arc.arc + 1) c.if-y-arc.moved c.loop-arc.invariant w.if-y-arc.false refl w.moved-is
]
