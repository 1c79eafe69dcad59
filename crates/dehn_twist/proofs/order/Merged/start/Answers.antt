use Rattle.std.proofs.Common.{arith}
use Rattle.dehn_twist.proofs.OrderTables.{seen_merged, start_room, starts_read}
use Rattle.dehn_twist.proofs.order.Merged.start.Goals as goal

pub bounds-as_slice-number : goal.bounds-as_slice-number
bounds-as_slice-number c =
    let r = starts_read _ _ c.self.view_is _ _ _ c.self.invariant _ _ c.number.ensures.value (omega (arith, c.requires)) in
    rw c.as_slice.ensures.value (omega (arith, r))

pub returns-clause-value : goal.returns-clause-value
returns-clause-value c =
    let r = starts_read _ _ c.self.view_is _ _ _ c.self.invariant _ _ c.number.ensures.value (omega (arith, c.requires)) in
    rw c.as_slice.ensures.value (omega (arith, r))

pub returns-clause-few : goal.returns-clause-few
returns-clause-few c =
    let r = starts_read _ _ c.self.view_is _ _ _ c.self.invariant _ _ c.number.ensures.value (omega (arith, c.requires)) in
    let m = start_room _ _ (seen_merged _ _ c.self.view_is _ _ _ c.self.invariant).taken _ c.requires in
    rw c.as_slice.ensures.value (omega (arith, r, m))
