use Rattle.std.proofs.Common.{ap, arith, sym, subst, suc, ◌-◌}
use Rattle.drawing.specs.Room.{HaveRoom, Roomy}
use Rattle.drawing.proofs.LaidPush.{chord_there, far_there, laid_back, near_there, places_there, room_back, sides_there, starts_there, strand_there, view_pushed}
use Rattle.drawing.proofs.RoomTables.{less_room}
use Rattle.drawing.proofs.layout.Layout.push.Goals as goal

pub push_strands-requires-clause-strand : goal.push_strands-requires-clause-strand
push_strands-requires-clause-strand c = strand_there c.self.inside.polygon c.self.inside.strands.items c.args.self.now.drawing (ap (λ (r : Roomy). r.drawing) c.self.view_is) c.self.inside.offsets.items c.self.invariant.0 c.requires.embedded c.args.finger.now c.requires.finger c.args.out c.requires.out _ c.deref_mut.ensures.value

pub push_strands-requires-clause-chord : goal.push_strands-requires-clause-chord
push_strands-requires-clause-chord c = chord_there c.self.inside.polygon c.self.inside.strands.items c.args.self.now.drawing (ap (λ (r : Roomy). r.drawing) c.self.view_is) c.self.inside.offsets.items c.self.invariant.0 c.requires.embedded c.args.finger.now c.requires.finger c.args.out c.requires.out _ c.deref_mut.ensures.value

pub push_strands-requires-clause-places : goal.push_strands-requires-clause-places
push_strands-requires-clause-places c = places_there c.self.inside.polygon c.self.inside.strands.items c.args.self.now.drawing (ap (λ (r : Roomy). r.drawing) c.self.view_is) c.self.inside.offsets.items c.self.invariant.0 c.requires.embedded c.args.finger.now c.requires.finger c.args.out c.requires.out _ c.deref_mut.ensures.value

pub push_strands-requires-clause-sides : goal.push_strands-requires-clause-sides
push_strands-requires-clause-sides c = sides_there c.self.inside.polygon c.self.inside.strands.items c.args.self.now.drawing (ap (λ (r : Roomy). r.drawing) c.self.view_is) c.self.inside.offsets.items c.self.invariant.0 c.requires.embedded c.args.finger.now c.requires.finger c.args.out c.requires.out _ c.deref_mut.ensures.value

pub push_strands-requires-clause-near : goal.push_strands-requires-clause-near
push_strands-requires-clause-near c = near_there c.self.inside.polygon c.self.inside.strands.items c.args.self.now.drawing (ap (λ (r : Roomy). r.drawing) c.self.view_is) c.self.inside.offsets.items c.self.invariant.0 c.requires.embedded c.args.finger.now c.requires.finger c.args.out c.requires.out _ c.segment_of-near.ensures

pub push_strands-requires-clause-far : goal.push_strands-requires-clause-far
push_strands-requires-clause-far c = far_there c.self.inside.polygon c.self.inside.strands.items c.args.self.now.drawing (ap (λ (r : Roomy). r.drawing) c.self.view_is) c.self.inside.offsets.items c.self.invariant.0 c.requires.embedded c.args.finger.now c.requires.finger c.args.out c.requires.out _ c.beyond-far.ensures

pub push_strands-requires-clause-room : goal.push_strands-requires-clause-room
push_strands-requires-clause-room c =
    less_room c.self.inside.room 1 _ (omega (arith, c.requires.room, ap (λ (r : Roomy). r.room) c.self.view_is)) (subst (HaveRoom c.self.inside.room) (sym c.deref_mut.ensures.value) c.self.invariant.1)

pub raise_sides-requires : goal.raise_sides-requires
raise_sides-requires c = starts_there c.self.inside.polygon c.self.inside.strands.items c.args.self.now.drawing (ap (λ (r : Roomy). r.drawing) c.self.view_is) c.self.inside.offsets.items c.self.invariant.0 c.requires.embedded c.args.finger.now c.requires.finger c.args.out c.requires.out _ c.deref_mut-2.ensures.value

pub overflow_sub-self : goal.overflow_sub-self
overflow_sub-self c = omega (arith, c.requires.room, ap (λ (r : Roomy). r.room) c.self.view_is)

pub invariant_of-self : goal.invariant_of-self
invariant_of-self c =
    let one = c.self.inside.room - 1 in
    let before = less_room c.self.inside.room (suc one) _ (omega (arith, c.requires.room, ap (λ (r : Roomy). r.room) c.self.view_is)) (subst (HaveRoom c.self.inside.room) (sym c.deref_mut.ensures.value) c.self.invariant.1) in (
      laid_back c.self.inside.polygon c.self.inside.strands.items c.args.self.now.drawing (ap (λ (r : Roomy). r.drawing) c.self.view_is) c.self.inside.offsets.items c.self.invariant.0 c.requires.embedded c.args.finger.now c.requires.finger c.args.out c.requires.out
          _ _ _ _ _ c.segment_of-near.ensures c.beyond-far.ensures c.deref_mut.ensures.value c.push_strands.ensures.strands c.deref_mut.ensures.len c.push_strands.auto.strands
          c.requires.after c.requires.few _ _ _ c.deref_mut-2.ensures.value c.deref_mut-2.ensures.len c.raise_sides.auto.offsets c.raise_sides.ensures,
      room_back c.self.inside.polygon c.self.inside.strands.items c.args.self.now.drawing (ap (λ (r : Roomy). r.drawing) c.self.view_is) c.self.inside.offsets.items c.self.invariant.0 c.requires.embedded c.args.finger.now c.requires.finger c.args.out c.requires.out
          _ _ _ _ _ c.segment_of-near.ensures c.beyond-far.ensures c.deref_mut.ensures.value c.push_strands.ensures.strands c.deref_mut.ensures.len c.push_strands.auto.strands one (c.push_strands.ensures.room one before),
    )

pub returns-clause-drawing : goal.returns-clause-drawing
returns-clause-drawing c = view_pushed c.self.inside.polygon c.self.inside.strands.items c.args.self.now.drawing (ap (λ (r : Roomy). r.drawing) c.self.view_is) c.self.inside.offsets.items c.self.invariant.0 c.requires.embedded c.args.finger.now c.requires.finger c.args.out c.requires.out
    _ _ _ _ _ c.segment_of-near.ensures c.beyond-far.ensures c.deref_mut.ensures.value c.push_strands.ensures.strands c.deref_mut.ensures.len c.push_strands.auto.strands

pub returns-clause-room : goal.returns-clause-room
returns-clause-room c = omega (arith, c.requires.room, ap (λ (r : Roomy). r.room) c.self.view_is)
