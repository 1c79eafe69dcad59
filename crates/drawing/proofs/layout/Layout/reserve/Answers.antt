use Rattle.std.proofs.Common.{subst, sym}
use Rattle.drawing.specs.Room.{HaveRoom}
use Rattle.drawing.proofs.LaidPush.{laid_same, room_same}
use Rattle.drawing.proofs.layout.Layout.reserve.Goals as goal

pub invariant_of-self : goal.invariant_of-self
invariant_of-self c = (
  laid_same c.self.inside.polygon c.self.inside.strands.items c.widen.new.strands _ _ c.deref_mut.ensures.value c.widen.ensures.strands c.deref_mut.ensures.len c.widen.auto.strands _ c.self.invariant.0,
  room_same c.self.inside.polygon c.self.inside.strands.items c.widen.new.strands _ _ c.deref_mut.ensures.value c.widen.ensures.strands c.deref_mut.ensures.len c.widen.auto.strands c.self.inside.room
      (c.widen.ensures.kept c.self.inside.room (subst (HaveRoom c.self.inside.room) (sym c.deref_mut.ensures.value) c.self.invariant.1)),
)
