use Rattle.std.proofs.Common.{◌≡◌, ◌<◌, ◌∙◌, arith, map, ap, get_or, length, subst, sym, List}
use Rattle.std.proofs.lemmas.List.{length-map}
use Rattle.obd_base.specs.Lists.{Mem}
use Rattle.obd_base.specs.declared.points.Exit.{Exit}
use Rattle.drawing.specs.PushTables.{raised}
use Rattle.drawing.proofs.Lists.{written_back}
use Rattle.drawing.proofs.RoomTables.{room_read, room_set, vector_unread, vector_written, vectors_all}
use Rattle.drawing.proofs.push.raise_strands.Goals as goal

pub raise_exits-requires-clause-sides : goal.raise_exits-requires-clause-sides
raise_exits-requires-clause-sides c = λ e m.
    let v = get_or c.loop-strand.strands c.loop-strand.strand c.index-strands-strand.result in
    let there = vector_unread (map (raised c.args.near.now c.args.far.now)) c.args.strands.now c.loop-strand.strands c.loop-strand.strand c.loop-strand.invariant.moved c.loop-strand-test.true
    (omega (arith, c.loop-strand-test.true, c.loop-strand.auto.strands)) v (ap (get_or c.loop-strand.strands c.loop-strand.strand) c.index-strands-strand.is) in
    c.requires.sides v.items there e (subst (λ (xs : List Exit). Mem e xs) c.deref_mut.ensures.value m)

pub raise_exits-requires-clause-places : goal.raise_exits-requires-clause-places
raise_exits-requires-clause-places c = λ e m.
    let v = get_or c.loop-strand.strands c.loop-strand.strand c.index-strands-strand.result in
    let there = vector_unread (map (raised c.args.near.now c.args.far.now)) c.args.strands.now c.loop-strand.strands c.loop-strand.strand c.loop-strand.invariant.moved c.loop-strand-test.true
    (omega (arith, c.loop-strand-test.true, c.loop-strand.auto.strands)) v (ap (get_or c.loop-strand.strands c.loop-strand.strand) c.index-strands-strand.is) in
    c.requires.places v.items there e (subst (λ (xs : List Exit). Mem e xs) c.deref_mut.ensures.value m)

pub loop-strand-preserved : goal.loop-strand-preserved
loop-strand-preserved c =
    let f = raised c.args.near.now c.args.far.now in
    let v = get_or c.loop-strand.strands c.loop-strand.strand c.index-strands-strand.result in
    let is = ap (get_or c.loop-strand.strands c.loop-strand.strand) c.index-strands-strand.is in
    let l : c.loop-strand.strand < length c.loop-strand.strands = omega (arith, c.loop-strand-test.true, c.loop-strand.auto.strands) in
    let moved : c.raise_exits.new.exits ≡ map f v.items = c.raise_exits.ensures ∙ ap (map f) c.deref_mut.ensures.value in
    let size : length c.raise_exits.new.exits ≡ v.len = ap length moved ∙ (length-map v.items f ∙ sym v.ok.0) in
    record {
      moved = vector_written (map f) c.args.strands.now c.loop-strand.strands c.loop-strand.strand c.loop-strand.invariant.moved c.loop-strand-test.true l v is _
          (written_back v.len v.items c.raise_exits.new.exits size (sym v.ok.0) ∙ moved);
      room = λ n h. let before = c.loop-strand.invariant.room n h in
          room_set n c.loop-strand.strands c.loop-strand.strand _ before (room_read n c.loop-strand.strands c.loop-strand.strand v l is before);
    }

pub returns-clause-strands : goal.returns-clause-strands
returns-clause-strands c =
    vectors_all (map (raised c.args.near.now c.args.far.now)) c.args.strands.now c.loop-strand.strands c.loop-strand.strand c.loop-strand-test.false c.loop-strand.invariant.moved
