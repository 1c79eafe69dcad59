use Rattle.std.proofs.Common.{arith}
use Rattle.page_surface.proofs.Laws.{paired_is_polygon}
use Rattle.page_surface.proofs.Tables.{seen_is_paired}
use Rattle.page_surface.proofs.polygon.Polygon.sides.Goals as goal

pub returns-clause-valid : goal.returns-clause-valid
returns-clause-valid c = rw (seen_is_paired _ _ _ c.self.invariant _ c.self.view_is) (paired_is_polygon _ (omega (arith, c.self.invariant.least)) c.self.invariant.pairs)
