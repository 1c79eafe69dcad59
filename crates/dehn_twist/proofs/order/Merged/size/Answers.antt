use Rattle.dehn_twist.proofs.OrderTables.{size_read}
use Rattle.dehn_twist.proofs.order.Merged.size.Goals as goal

pub bounds-as_slice-sides : goal.bounds-as_slice-sides
bounds-as_slice-sides c = rw c.as_slice.ensures.value (size_read _ _ c.self.view_is _ _ _ c.self.invariant _ c.sides.ensures.value).0

pub returns-clause-value : goal.returns-clause-value
returns-clause-value c = rw c.as_slice.ensures.value (size_read _ _ c.self.view_is _ _ _ c.self.invariant _ c.sides.ensures.value).1

pub returns-clause-few : goal.returns-clause-few
returns-clause-few c = rw c.as_slice.ensures.value (size_read _ _ c.self.view_is _ _ _ c.self.invariant _ c.sides.ensures.value).2
