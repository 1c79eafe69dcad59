use Rattle.std.proofs.Common.{arith, suc, ap, get_or}
use Rattle.drawing.proofs.PushTables.{chord_moved, rows_two, vector_there}
use Rattle.drawing.proofs.RoomTables.{less_room, room_read, room_set}
use Rattle.drawing.proofs.push.push_strands.Goals as goal

pub put_two-requires-clause-count : goal.put_two-requires-clause-count
put_two-requires-clause-count c =
    chord_moved c.args.near.now c.args.far.now c.args.finger.now c.args.out c.args.strands.now c.raise_strands.new.strands c.raise_strands.ensures.strands c.requires.strand c.number.result c.number.ensures.value (get_or c.raise_strands.new.strands c.number.result c.index-strands-number.result) (ap (get_or c.raise_strands.new.strands c.number.result) c.index-strands-number.is) c.requires.chord

pub put_two-requires-clause-room : goal.put_two-requires-clause-room
put_two-requires-clause-room c =
    let there = vector_there c.args.near.now c.args.far.now c.args.finger.now c.args.out c.args.strands.now c.raise_strands.new.strands c.raise_strands.ensures.strands c.requires.strand c.number.result c.number.ensures.value (get_or c.raise_strands.new.strands c.number.result c.index-strands-number.result) (ap (get_or c.raise_strands.new.strands c.number.result) c.index-strands-number.is) in
    omega (arith, room_read 1 c.raise_strands.new.strands c.number.result (get_or c.raise_strands.new.strands c.number.result c.index-strands-number.result) there (ap (get_or c.raise_strands.new.strands c.number.result) c.index-strands-number.is) (c.raise_strands.ensures.room 1 c.requires.room))

pub returns-clause-strands : goal.returns-clause-strands
returns-clause-strands c =
    rows_two c.args.near.now c.args.far.now c.args.finger.now c.args.out c.args.strands.now c.raise_strands.new.strands c.raise_strands.ensures.strands c.requires.strand c.number.result c.number.ensures.value (get_or c.raise_strands.new.strands c.number.result c.index-strands-number.result) (ap (get_or c.raise_strands.new.strands c.number.result) c.index-strands-number.is)
    _ c.put_two.ensures.exits

pub returns-clause-room : goal.returns-clause-room
returns-clause-room c = λ n h.
    let there = vector_there c.args.near.now c.args.far.now c.args.finger.now c.args.out c.args.strands.now c.raise_strands.new.strands c.raise_strands.ensures.strands c.requires.strand c.number.result c.number.ensures.value (get_or c.raise_strands.new.strands c.number.result c.index-strands-number.result) (ap (get_or c.raise_strands.new.strands c.number.result) c.index-strands-number.is) in
    let moved = c.raise_strands.ensures.room (suc n) h in
    room_set n c.raise_strands.new.strands _ _ (less_room (suc n) n c.raise_strands.new.strands (omega arith) moved)
    (omega (arith, c.put_two.ensures.room, room_read (suc n) c.raise_strands.new.strands c.number.result (get_or c.raise_strands.new.strands c.number.result c.index-strands-number.result) there (ap (get_or c.raise_strands.new.strands c.number.result) c.index-strands-number.is) moved))
