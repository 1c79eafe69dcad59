use Rattle.std.proofs.Common.{arith}
use Rattle.dehn_twist.proofs.OrderTables.{points_read}
use Rattle.dehn_twist.proofs.order.Merged.points_on.Goals as goal

pub bounds-as_slice-number : goal.bounds-as_slice-number
bounds-as_slice-number c =
    let r = points_read _ _ c.self.view_is _ _ _ c.self.invariant _ _ c.number.ensures.value c.requires in
    rw c.as_slice.ensures.value (omega (arith, r))

pub returns-clause-value : goal.returns-clause-value
returns-clause-value c =
    let r = points_read _ _ c.self.view_is _ _ _ c.self.invariant _ _ c.number.ensures.value c.requires in
    rw c.as_slice.ensures.value (omega (arith, r))

pub returns-clause-few : goal.returns-clause-few
returns-clause-few c =
    let r = points_read _ _ c.self.view_is _ _ _ c.self.invariant _ _ c.number.ensures.value c.requires in
    rw c.as_slice.ensures.value (omega (arith, r))
