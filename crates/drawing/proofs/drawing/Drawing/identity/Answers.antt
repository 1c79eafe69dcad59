use Rattle.std.proofs.Common.{◌≡◌}
use Rattle.page_surface.specs.Polygon.{second_side}
use Rattle.drawing.proofs.IdentityEmbedded.{copy_embedded, copy_few, copy_is, copy_on_sides, copy_strands}
use Rattle.drawing.proofs.RoomTables.{rows_more}
use Rattle.drawing.proofs.IdentityTables.{all_strands, strands_more}
use Rattle.drawing.proofs.drawing.Drawing.identity.Goals as goal

pub loop-arc-preserved : goal.loop-arc-preserved
loop-arc-preserved c =
    let s : c.pair.result ≡ second_side c.args.polygon.now c.loop-arc.arc = cc in
    strands_more c.args.polygon.now _ _ _ _ _ c.loop-arc.invariant c.in_ok-crossing.ensures s (rows_more _ _ _ c.in_ok-push.ensures.items)

pub of-requires-clause-strands : goal.of-requires-clause-strands
of-requires-clause-strands c =
    let few = rw c.sides-arc-end.ensures.value at c.sides-arc-end.ensures.most in
    let all = all_strands c.args.polygon.now _ _ _ c.sides-arc-end.ensures.value c.loop-arc-test.false c.loop-arc.auto.arc-end c.loop-arc.invariant in
    copy_strands c.args.polygon.now _ _ c.sides-arc-end.ensures.valid few c.in_ok-copy.ensures all

pub of-requires-clause-on_sides : goal.of-requires-clause-on_sides
of-requires-clause-on_sides c =
    let few = rw c.sides-arc-end.ensures.value at c.sides-arc-end.ensures.most in
    let all = all_strands c.args.polygon.now _ _ _ c.sides-arc-end.ensures.value c.loop-arc-test.false c.loop-arc.auto.arc-end c.loop-arc.invariant in
    copy_on_sides c.args.polygon.now _ _ c.sides-arc-end.ensures.valid few c.in_ok-copy.ensures all

pub of-requires-clause-few : goal.of-requires-clause-few
of-requires-clause-few c =
    let few = rw c.sides-arc-end.ensures.value at c.sides-arc-end.ensures.most in
    let all = all_strands c.args.polygon.now _ _ _ c.sides-arc-end.ensures.value c.loop-arc-test.false c.loop-arc.auto.arc-end c.loop-arc.invariant in
    copy_few c.args.polygon.now _ _ c.sides-arc-end.ensures.valid few c.in_ok-copy.ensures all

pub of-requires-2-clause-embedded : goal.of-requires-2-clause-embedded
of-requires-2-clause-embedded c =
    let few = rw c.sides-arc-end.ensures.value at c.sides-arc-end.ensures.most in
    let all = all_strands c.args.polygon.now _ _ _ c.sides-arc-end.ensures.value c.loop-arc-test.false c.loop-arc.auto.arc-end c.loop-arc.invariant in
    rw c.in_ok-layout.ensures.drawing (copy_embedded c.args.polygon.now _ _ c.sides-arc-end.ensures.valid few c.in_ok-copy.ensures all)

pub returns : goal.returns
returns c =
    let few = rw c.sides-arc-end.ensures.value at c.sides-arc-end.ensures.most in
    let all = all_strands c.args.polygon.now _ _ _ c.sides-arc-end.ensures.value c.loop-arc-test.false c.loop-arc.auto.arc-end c.loop-arc.invariant in
    let same = copy_is c.args.polygon.now _ _ c.sides-arc-end.ensures.valid few c.in_ok-copy.ensures all in
    rw (← same, ← c.in_ok-layout.ensures.drawing) c.of-2.ensures
