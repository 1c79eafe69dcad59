use Rattle.std.proofs.Common.{ap, subst, arith}
use Rattle.region_table.specs.Reads.{told_points}
use Rattle.nice_plan.specs.Measured.{IsMeasured, Measured}
use Rattle.nice_plan.proofs.EdgeSteps.{place_told}
use Rattle.nice_plan.proofs.measured.Measured.piece.Goals as goal

pub piece_at-requires-clause-segment : goal.piece_at-requires-clause-segment
piece_at-requires-clause-segment c =
    let m = c.args.self.now in
    let k = subst (λ (w : Measured). IsMeasured w.drawing w.table) c.self.view_is c.self.invariant in
    omega (arith, place_told m k c.args.segment.now c.requires, ap (λ (w : Measured). told_points w.table c.args.segment.now.side) c.self.view_is)
