use Rattle.std.proofs.Common.{ap}
use Rattle.drawing.specs.Room.{rows}
use Rattle.drawing.proofs.RoomTables.{no_room}
use Rattle.drawing.proofs.LayoutTables.{as_written, laid_out, offset_total}
use Rattle.drawing.specs.Layout.{drawn}
use Rattle.drawing.proofs.layout.Layout.of.Goals as goal

pub offsets-requires : goal.offsets-requires
offsets-requires c =
    let few = rw c.sides.ensures.value at c.sides.ensures.most in
    let ok = as_written c.args.polygon (rows c.args.strands.items) c.sides.ensures.valid few c.requires.strands c.requires.on_sides c.requires.few in
    let counted = rw (c.deref-2.ensures.value, c.in_ok-exits.ensures, ap rows c.deref.ensures.value) at c.in_ok-counts.ensures in
    rw c.deref-3.ensures.value (offset_total (drawn c.args.polygon (rows c.args.strands.items)) _ ok counted)

pub invariant_of-result : goal.invariant_of-result
invariant_of-result c =
    let few = rw c.sides.ensures.value at c.sides.ensures.most in
    let ok = as_written c.args.polygon (rows c.args.strands.items) c.sides.ensures.valid few c.requires.strands c.requires.on_sides c.requires.few in
    let counted = rw (c.deref-2.ensures.value, c.in_ok-exits.ensures, ap rows c.deref.ensures.value) at c.in_ok-counts.ensures in
    (laid_out c.args.polygon (rows c.args.strands.items) _ _ _ ok counted c.deref-3.ensures.value c.in_ok-offsets.ensures, no_room c.args.strands.items)
