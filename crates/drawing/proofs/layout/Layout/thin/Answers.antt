use Rattle.std.proofs.Common.{ap, arith, refl}
use Rattle.drawing.specs.Room.{Roomy, rows}
use Rattle.drawing.proofs.LaidThin.{begins_fit, end_there, laid_written, rows_known, two_before, view_written}
use Rattle.drawing.proofs.RoomTables.{no_room}
use Rattle.drawing.proofs.layout.Layout.thin.Goals as goal

pub thin_strands-requires : goal.thin_strands-requires
thin_strands-requires c =
    rows_known c.self.inside.polygon (rows c.self.inside.strands.items) c.args.self.now.drawing (ap (λ (r : Roomy). r.drawing) c.self.view_is) c.self.inside.offsets.items c.self.invariant.0 c.requires.embedded c.args.gone.now
    c.number_points.new.places c.requires.gone_size (omega (arith, c.requires.places_size, c.number_points.auto.places)) c.number_points.ensures _ _ (ap rows c.deref_mut.ensures.value) c.as_slice.ensures.value

pub move_sides-requires-clause-ends : goal.move_sides-requires-clause-ends
move_sides-requires-clause-ends c =
    two_before c.self.inside.polygon (rows c.self.inside.strands.items) c.args.self.now.drawing (ap (λ (r : Roomy). r.drawing) c.self.view_is) c.self.inside.offsets.items c.self.invariant.0 c.requires.embedded c.args.gone.now
    c.number_points.new.places c.requires.gone_size (omega (arith, c.requires.places_size, c.number_points.auto.places)) c.number_points.ensures _ c.deref_mut-2.ensures.value

pub move_sides-requires-clause-there : goal.move_sides-requires-clause-there
move_sides-requires-clause-there c =
    end_there c.self.inside.polygon (rows c.self.inside.strands.items) c.args.self.now.drawing (ap (λ (r : Roomy). r.drawing) c.self.view_is) c.self.inside.offsets.items c.self.invariant.0 c.requires.embedded c.args.gone.now
    c.number_points.new.places c.requires.gone_size (omega (arith, c.requires.places_size, c.number_points.auto.places)) c.number_points.ensures _ c.deref_mut-2.ensures.value

pub move_sides-requires-clause-few : goal.move_sides-requires-clause-few
move_sides-requires-clause-few c =
    begins_fit c.self.inside.polygon (rows c.self.inside.strands.items) c.args.self.now.drawing (ap (λ (r : Roomy). r.drawing) c.self.view_is) c.self.inside.offsets.items c.self.invariant.0 c.requires.embedded c.args.gone.now
    c.number_points.new.places c.requires.gone_size (omega (arith, c.requires.places_size, c.number_points.auto.places)) c.number_points.ensures c.requires.alike c.requires.left c.requires.few _ c.deref_mut-2.ensures.value

pub invariant_of-self : goal.invariant_of-self
invariant_of-self c = (
  laid_written c.self.inside.polygon (rows c.self.inside.strands.items) c.args.self.now.drawing (ap (λ (r : Roomy). r.drawing) c.self.view_is) c.self.inside.offsets.items c.self.invariant.0 c.requires.embedded c.args.gone.now
      c.number_points.new.places c.requires.gone_size (omega (arith, c.requires.places_size, c.number_points.auto.places)) c.number_points.ensures c.requires.alike c.requires.left c.requires.few
      c.self.inside.strands.items _ _ refl _ _ c.deref_mut.ensures.value c.as_slice.ensures.value c.thin_strands.ensures c.deref_mut.ensures.len c.thin_strands.auto.strands
      _ _ _ c.move_sides.ensures c.deref_mut-2.ensures.value c.deref_mut-2.ensures.len c.move_sides.auto.offsets,
  no_room _,
)

pub returns-clause-drawing : goal.returns-clause-drawing
returns-clause-drawing c =
    view_written c.self.inside.polygon (rows c.self.inside.strands.items) c.args.self.now.drawing (ap (λ (r : Roomy). r.drawing) c.self.view_is) c.self.inside.offsets.items c.self.invariant.0 c.requires.embedded c.args.gone.now
    c.number_points.new.places c.requires.gone_size (omega (arith, c.requires.places_size, c.number_points.auto.places)) c.number_points.ensures c.requires.alike c.requires.left c.requires.few
    c.self.inside.strands.items _ _ refl _ _ c.deref_mut.ensures.value c.as_slice.ensures.value c.thin_strands.ensures c.deref_mut.ensures.len c.thin_strands.auto.strands
