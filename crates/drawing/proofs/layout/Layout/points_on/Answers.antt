use Rattle.std.proofs.Common.{arith, ap}
use Rattle.drawing.specs.Room.{Roomy}
use Rattle.drawing.proofs.LayoutTables.{offset_count, points_read, spot_read}
use Rattle.drawing.proofs.layout.Layout.points_on.Goals as goal

pub bounds-offsets-side : goal.bounds-offsets-side
bounds-offsets-side c = let k = offset_count _ _ (ap (λ (r : Roomy). r.drawing) c.self.view_is) _ c.self.invariant.0 in rw c.as_slice-offsets.ensures.value (omega (arith, k, c.requires, c.number-side.ensures.value))

pub bounds-offsets-side-2 : goal.bounds-offsets-side-2
bounds-offsets-side-2 c = let k = offset_count _ _ (ap (λ (r : Roomy). r.drawing) c.self.view_is) _ c.self.invariant.0 in rw c.as_slice-offsets.ensures.value (omega (arith, k, c.requires, c.number-side.ensures.value))

pub overflow_sub-result : goal.overflow_sub-result
overflow_sub-result c = let k = points_read _ _ (ap (λ (r : Roomy). r.drawing) c.self.view_is) _ c.self.invariant.0 _ _ c.number-side.ensures.value c.requires in rw c.as_slice-offsets.ensures.value (omega (arith, k))

pub overflow_sub-result-2 : goal.overflow_sub-result-2
overflow_sub-result-2 c = let k = points_read _ _ (ap (λ (r : Roomy). r.drawing) c.self.view_is) _ c.self.invariant.0 _ _ c.number-side.ensures.value c.requires in rw c.as_slice-offsets.ensures.value (omega (arith, k))

pub returns-clause-value : goal.returns-clause-value
returns-clause-value c = let k = points_read _ _ (ap (λ (r : Roomy). r.drawing) c.self.view_is) _ c.self.invariant.0 _ _ c.number-side.ensures.value c.requires in rw c.as_slice-offsets.ensures.value (omega (arith, k))

pub returns-clause-few : goal.returns-clause-few
returns-clause-few c =
    let k = points_read _ _ (ap (λ (r : Roomy). r.drawing) c.self.view_is) _ c.self.invariant.0 _ _ c.number-side.ensures.value c.requires in
    let f = spot_read _ _ (ap (λ (r : Roomy). r.drawing) c.self.view_is) _ c.self.invariant.0 _ _ c.number-side.ensures.value c.requires in
    rw c.as_slice-offsets.ensures.value (omega (arith, k, f))
