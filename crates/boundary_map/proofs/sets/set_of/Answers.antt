use Rattle.std.proofs.Common.{◌+◌, ◌/◌, ◌∙◌, arith, refl}
use Rattle.boundary_map.proofs.PartSets.{left_in, left_out}
use Rattle.boundary_map.proofs.sets.set_of.Goals as goal
use Rattle.boundary_map.proofs.sets.set_of.Goals.{then-rest-half+in_ok-push, else-rest-half}

pub loop-piece-preserved : goal.loop-piece-preserved
loop-piece-preserved c = elim c.if-rest-half.branch [
  | then-rest-half+in_ok-push w ↦ left_in c.args.pieces.now c.loop-piece.set c.args.number c.loop-piece.piece-index c.loop-piece.rest c.loop-piece.half c.loop-piece-test.true c.loop-piece.invariant
      c.if-rest-half.set c.piece-item.result (c.loop-piece.half / 2) c.if-rest-half.rest (c.loop-piece.piece-index + 1)
      (w.set-is ∙ w.in_ok-push.ensures.ok) refl c.piece-item.is (omega arith) (omega arith) (omega (arith, w.if-rest-half.true)) w.rest-is
  | else-rest-half w ↦ left_out c.args.pieces.now c.loop-piece.set c.args.number c.loop-piece.piece-index c.loop-piece.rest c.loop-piece.half c.loop-piece-test.true c.loop-piece.invariant
      c.if-rest-half.set c.piece-item.result (c.loop-piece.half / 2) c.if-rest-half.rest (c.loop-piece.piece-index + 1)
      w.set-is w.rest-is refl (omega arith) (omega arith) (omega (arith, w.if-rest-half.false))
]
