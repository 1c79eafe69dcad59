use Rattle.std.proofs.Common.{arith, ap, length}
use Rattle.arc_basis.proofs.JoinLoop.{in_range0, in_range1, joining_done, joining_none, joining_whole, more_so, side_found, stays_so}
use Rattle.arc_basis.proofs.joining.join_polygons.Goals as goal
use Rattle.arc_basis.proofs.joining.join_polygons.Goals.{then-first-second+in_ok-splice+in_ok-push, else-first-second}

pub loop-number-init : goal.loop-number-init
loop-number-init c = rw (c.in_ok-polygons.ensures, c.new-seams.ensures) (joining_none c.args.page.now c.label_count-number-end.ensures.valid)

pub side_place-requires : goal.side_place-requires
side_place-requires c = rw (c.new-label.ensures, c.deref.ensures.value)
    (side_found c.args.page.now c.label_count-number-end.ensures.valid c.loop-number.number _ _ c.loop-number.invariant
    (omega (arith, c.loop-number-test.true, c.label_count-number-end.ensures.value)) 0 (omega arith)).0

pub side_place-requires-in-loop-number : goal.side_place-requires-in-loop-number
side_place-requires-in-loop-number c = rw (c.new-label.ensures, c.deref-in-loop-number.ensures.value)
    (side_found c.args.page.now c.label_count-number-end.ensures.valid c.loop-number.number _ _ c.loop-number.invariant
    (omega (arith, c.loop-number-test.true, c.label_count-number-end.ensures.value)) 1 (omega arith)).0

pub splice-requires-clause-first : goal.splice-requires-clause-first
splice-requires-clause-first c =
    (in_range0 c.args.page.now c.label_count-number-end.ensures.valid c.loop-number.number
    _ _ c.loop-number.invariant (omega (arith, c.loop-number-test.true, c.label_count-number-end.ensures.value)) _ c.new-label.ensures _ _ c.deref.ensures.value
    c.deref-in-loop-number.ensures.value _ _ c.side_place.ensures.polygon c.side_place.ensures.place c.side_place-in-loop-number.ensures.polygon
    c.side_place-in-loop-number.ensures.place _ _ c.unwrap-first.ensures c.unwrap-second.ensures).0

pub splice-requires-clause-place : goal.splice-requires-clause-place
splice-requires-clause-place c =
    (in_range0 c.args.page.now c.label_count-number-end.ensures.valid c.loop-number.number
    _ _ c.loop-number.invariant (omega (arith, c.loop-number-test.true, c.label_count-number-end.ensures.value)) _ c.new-label.ensures _ _ c.deref.ensures.value
    c.deref-in-loop-number.ensures.value _ _ c.side_place.ensures.polygon c.side_place.ensures.place c.side_place-in-loop-number.ensures.polygon
    c.side_place-in-loop-number.ensures.place _ _ c.unwrap-first.ensures c.unwrap-second.ensures).1

pub splice-requires-clause-second : goal.splice-requires-clause-second
splice-requires-clause-second c =
    (in_range1 c.args.page.now c.label_count-number-end.ensures.valid c.loop-number.number
    _ _ c.loop-number.invariant (omega (arith, c.loop-number-test.true, c.label_count-number-end.ensures.value)) _ c.new-label.ensures _ _ c.deref.ensures.value
    c.deref-in-loop-number.ensures.value _ _ c.side_place.ensures.polygon c.side_place.ensures.place c.side_place-in-loop-number.ensures.polygon
    c.side_place-in-loop-number.ensures.place _ _ c.unwrap-first.ensures c.unwrap-second.ensures).0

pub splice-requires-clause-own : goal.splice-requires-clause-own
splice-requires-clause-own c =
    (in_range1 c.args.page.now c.label_count-number-end.ensures.valid c.loop-number.number
    _ _ c.loop-number.invariant (omega (arith, c.loop-number-test.true, c.label_count-number-end.ensures.value)) _ c.new-label.ensures _ _ c.deref.ensures.value
    c.deref-in-loop-number.ensures.value _ _ c.side_place.ensures.polygon c.side_place.ensures.place c.side_place-in-loop-number.ensures.polygon
    c.side_place-in-loop-number.ensures.place _ _ c.unwrap-first.ensures c.unwrap-second.ensures).1

pub loop-number-preserved : goal.loop-number-preserved
loop-number-preserved c = elim c.if-first-second.branch [
  | then-first-second+in_ok-splice+in_ok-push w ↦
      rw (w.polygons-is, w.seams-is) (more_so c.args.page.now c.label_count-number-end.ensures.valid c.loop-number.number
      _ _ c.loop-number.invariant (omega (arith, c.loop-number-test.true, c.label_count-number-end.ensures.value)) _ c.new-label.ensures _ _ c.deref.ensures.value
      c.deref-in-loop-number.ensures.value _ _ c.side_place.ensures.polygon c.side_place.ensures.place c.side_place-in-loop-number.ensures.polygon
      c.side_place-in-loop-number.ensures.place _ _ c.unwrap-first.ensures c.unwrap-second.ensures
      w.if-first-second.true _ _ w.in_ok-splice.ensures w.in_ok-push.ensures.ok)
  | else-first-second w ↦
      rw (w.polygons-is, w.seams-is) (stays_so c.args.page.now c.label_count-number-end.ensures.valid c.loop-number.number
      _ _ c.loop-number.invariant (omega (arith, c.loop-number-test.true, c.label_count-number-end.ensures.value)) _ c.new-label.ensures _ _ c.deref.ensures.value
      c.deref-in-loop-number.ensures.value _ _ c.side_place.ensures.polygon c.side_place.ensures.place c.side_place-in-loop-number.ensures.polygon
      c.side_place-in-loop-number.ensures.place _ _ c.unwrap-first.ensures c.unwrap-second.ensures
      w.if-first-second.false)
]

pub remove-requires : goal.remove-requires
remove-requires c =
    let e = joining_whole c.args.page.now c.label_count-number-end.ensures.valid _ _ _ (omega (arith, c.loop-number-test.false, c.label_count-number-end.ensures.value)) c.loop-number.invariant in
    omega (arith, ap length e)

pub returns-clause-sides : goal.returns-clause-sides
returns-clause-sides c =
    let e = joining_whole c.args.page.now c.label_count-number-end.ensures.valid _ _ _ (omega (arith, c.loop-number-test.false, c.label_count-number-end.ensures.value)) c.loop-number.invariant in
    rw e at c.remove.ensures.value

pub returns-clause-seams : goal.returns-clause-seams
returns-clause-seams c =
    (joining_done c.args.page.now c.label_count-number-end.ensures.valid _ _ _ (omega (arith, c.loop-number-test.false, c.label_count-number-end.ensures.value)) c.loop-number.invariant).1
