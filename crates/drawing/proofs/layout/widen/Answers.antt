use Rattle.std.proofs.Common.{◌<◌, ◌∙◌, arith, length, ap, get_or}
use Rattle.drawing.proofs.RoomTables.{room_all, room_more, room_read, room_set, rows_kept}
use Rattle.drawing.proofs.layout.widen.Goals as goal

pub loop-strand-preserved : goal.loop-strand-preserved
loop-strand-preserved c =
    let inv = c.loop-strand.invariant in
    let vs = c.loop-strand.strands in
    let l : c.loop-strand.strand < length vs = omega (arith, c.loop-strand-test.true, c.loop-strand.auto.strands) in
    record {
      same = rows_kept vs c.loop-strand.strand (get_or c.loop-strand.strands c.loop-strand.strand c.index-strands-strand.result) _ l (ap (get_or c.loop-strand.strands c.loop-strand.strand) c.index-strands-strand.is) c.in_ok-reserve.ensures.items ∙ inv.same;
      so_far = room_more c.args.fingers vs c.loop-strand.strand _ l inv.so_far (omega (arith, c.in_ok-reserve.ensures.ok));
      kept = λ n h. let before = inv.kept n h in
          room_set n vs c.loop-strand.strand _ before
          (omega (arith, c.in_ok-reserve.ensures.capacity, c.in_ok-reserve.ensures.len, room_read n vs c.loop-strand.strand (get_or c.loop-strand.strands c.loop-strand.strand c.index-strands-strand.result) l (ap (get_or c.loop-strand.strands c.loop-strand.strand) c.index-strands-strand.is) before));
    }

pub returns-clause-room : goal.returns-clause-room
returns-clause-room c = room_all c.args.fingers c.loop-strand.strands c.loop-strand.strand (omega (arith, c.loop-strand-test.false, c.loop-strand.auto.strands)) c.loop-strand.invariant.so_far

pub returns-in_err-reserve-clause-strands : goal.returns-in_err-reserve-clause-strands
returns-in_err-reserve-clause-strands c =
    let l : c.loop-strand.strand < length c.loop-strand.strands = omega (arith, c.loop-strand-test.true, c.loop-strand.auto.strands) in
    rows_kept c.loop-strand.strands c.loop-strand.strand (get_or c.loop-strand.strands c.loop-strand.strand c.index-strands-strand.result) _ l (ap (get_or c.loop-strand.strands c.loop-strand.strand) c.index-strands-strand.is) c.in_err-reserve.ensures.items ∙ c.loop-strand.invariant.same

pub returns-in_err-reserve-clause-kept : goal.returns-in_err-reserve-clause-kept
returns-in_err-reserve-clause-kept c = λ n h.
    let vs = c.loop-strand.strands in
    let l : c.loop-strand.strand < length vs = omega (arith, c.loop-strand-test.true, c.loop-strand.auto.strands) in
    let before = c.loop-strand.invariant.kept n h in
    room_set n vs c.loop-strand.strand _ before
    (omega (arith, c.in_err-reserve.ensures.capacity, c.in_err-reserve.ensures.len, room_read n vs c.loop-strand.strand (get_or c.loop-strand.strands c.loop-strand.strand c.index-strands-strand.result) l (ap (get_or c.loop-strand.strands c.loop-strand.strand) c.index-strands-strand.is) before))
