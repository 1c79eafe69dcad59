use Rattle.std.proofs.Common.{◌+◌, ap, arith}
use Rattle.drawing.specs.Room.{Roomy}
use Rattle.drawing.proofs.LayoutTables.{offset_count, spot_inside, spot_read}
use Rattle.drawing.proofs.layout.Layout.spot.Goals as goal

pub bounds-as_slice-number : goal.bounds-as_slice-number
bounds-as_slice-number c =
    let k = offset_count _ _ (ap (λ (r : Roomy). r.drawing) c.self.view_is) _ c.self.invariant.0 in
    rw c.as_slice.ensures.value (omega (arith, k, c.requires.side, c.number.ensures.value))

pub overflow_add-result : goal.overflow_add-result
overflow_add-result c =
    let k = spot_read _ _ (ap (λ (r : Roomy). r.drawing) c.self.view_is) _ c.self.invariant.0 _ _ c.number.ensures.value c.requires.side in
    rw c.as_slice.ensures.value (omega (arith, k, c.requires.place))

pub returns-clause-value : goal.returns-clause-value
returns-clause-value c =
    let k = spot_read _ _ (ap (λ (r : Roomy). r.drawing) c.self.view_is) _ c.self.invariant.0 _ _ c.number.ensures.value c.requires.side in
    rw c.as_slice.ensures.value (ap (λ x. x + c.args.exit.place) k.0)

pub returns-clause-inside : goal.returns-clause-inside
returns-clause-inside c =
    let k = spot_read _ _ (ap (λ (r : Roomy). r.drawing) c.self.view_is) _ c.self.invariant.0 _ _ c.number.ensures.value c.requires.side in
    rw c.as_slice.ensures.value (spot_inside c.args.self.now.drawing c.args.exit.side _ _ c.requires.side c.requires.place k.0)

pub returns-clause-few : goal.returns-clause-few
returns-clause-few c =
    let k = spot_read _ _ (ap (λ (r : Roomy). r.drawing) c.self.view_is) _ c.self.invariant.0 _ _ c.number.ensures.value c.requires.side in
    rw c.as_slice.ensures.value (omega (arith, k, c.requires.place))
