use Rattle.std.proofs.Common.{length}
use Rattle.mod2_rank.proofs.ColumnSteps.{ascends_all}
use Rattle.mod2_rank.proofs.written.is_held.Goals as goal

pub is_odd_in-requires : goal.is_odd_in-requires
is_odd_in-requires c = λ k d l.
    let (small, asc, own) = c.requires.table c.args.row c.in-Some.pivot c.in-Some.is in
    ascends_all c.list.result.now 0 (length c.args.pivot_of.now) _ (rw (c.list.ensures) asc) c.requires.room k d l

pub list-requires : goal.list-requires
list-requires c = (c.requires.table c.args.row c.in-Some.pivot c.in-Some.is).0
