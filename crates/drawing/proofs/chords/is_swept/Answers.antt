use Rattle.std.proofs.Common.{◌≡◌, length, arith}
use Rattle.std.proofs.lemmas.Grind.{common_steps}
use Rattle.std.specs.Vec.{vec_len}
use Rattle.drawing.proofs.SweepTables.{sweep_closes, sweep_fails, sweep_opens, sweep_skips}
use Rattle.drawing.proofs.chords.is_swept.Goals as goal
use Rattle.drawing.proofs.chords.is_swept.Goals.{then-mate-at+in_ok-push, else-mate-at+else-mate-at-2, else-mate-at-2-via-then-mate-at-2+else-ne, else-mate-at-2-via-else-mate-at-2}

pub returns-then-ne : goal.returns-then-ne
returns-then-ne c =
    let size : vec_len c.loop-at.open ≡ length c.loop-at.open.items = grind (arith, common_steps) in
    sweep_fails c.args.mates.now c.loop-at.at c.loop-at-test.true _ _ _ _ _ c.if-mate-at-2.true c.pop.ensures.items size c.pop.ensures.variant.1 c.if-ne.ensures c.loop-at.invariant

pub loop-at-preserved : goal.loop-at-preserved
loop-at-preserved c = elim c.if-mate-at.branch [
  | then-mate-at+in_ok-push w ↦ rw w.open-is (sweep_opens c.args.mates.now c.loop-at.at c.loop-at-test.true _ _ _ _ w.if-mate-at.true (omega arith) w.in_ok-push.ensures.items c.loop-at.invariant)
  | else-mate-at+else-mate-at-2 w ↦ elim w.else-mate-at-2.branch [
    | else-mate-at-2-via-then-mate-at-2+else-ne w' ↦ rw (w.open-is, w'.open-is) (sweep_closes c.args.mates.now c.loop-at.at c.loop-at-test.true _ _ _ _ w'.if-mate-at-2.true w'.pop.ensures.items w'.if-ne.ensures c.loop-at.invariant)
    | else-mate-at-2-via-else-mate-at-2 w' ↦ rw (w.open-is, w'.open-is) (sweep_skips c.args.mates.now c.loop-at.at c.loop-at-test.true _ c.loop-at.open.items w.if-mate-at.false w'.if-mate-at-2.false c.loop-at.invariant)
  ]
]
