use Rattle.std.proofs.Common.{◌+◌, ap, subst, arith}
use Rattle.region_table.specs.Table.{region}
use Rattle.nice_plan.specs.Measured.{IsMeasured, Measured}
use Rattle.nice_plan.proofs.MeasuredReads.{some_segment}
use Rattle.nice_plan.proofs.measured.Measured.size.Goals as goal

pub returns-clause-some : goal.returns-clause-some
returns-clause-some c =
    let m = c.args.self.now in
    let k = subst (λ (w : Measured). IsMeasured w.drawing w.table) c.self.view_is c.self.invariant in
    omega (arith, some_segment m k c.args.piece c.requires, c.corners.ensures.told, ap (λ (w : Measured). (region w.table c.args.piece).size + (region w.table c.args.piece).size) c.self.view_is)
