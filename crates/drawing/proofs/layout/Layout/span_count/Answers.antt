use Rattle.std.proofs.Common.{arith, ap}
use Rattle.drawing.specs.Room.{Roomy}
use Rattle.drawing.proofs.LayoutTables.{offset_count, total_read}
use Rattle.drawing.proofs.layout.Layout.span_count.Goals as goal

pub bounds-as_slice-sides : goal.bounds-as_slice-sides
bounds-as_slice-sides c =
    let k = offset_count _ _ (ap (λ (r : Roomy). r.drawing) c.self.view_is) _ c.self.invariant.0 in
    let t = total_read _ _ _ (ap (λ (r : Roomy). r.drawing) c.self.view_is) _ c.self.invariant.0 _ c.sides.ensures.value in
    rw c.as_slice.ensures.value (omega (arith, k, t))

pub returns-clause-value : goal.returns-clause-value
returns-clause-value c = let t = total_read _ _ _ (ap (λ (r : Roomy). r.drawing) c.self.view_is) _ c.self.invariant.0 _ c.sides.ensures.value in rw c.as_slice.ensures.value t.1

pub returns-clause-few : goal.returns-clause-few
returns-clause-few c = let t = total_read _ _ _ (ap (λ (r : Roomy). r.drawing) c.self.view_is) _ c.self.invariant.0 _ c.sides.ensures.value in rw c.as_slice.ensures.value (omega (arith, t))
