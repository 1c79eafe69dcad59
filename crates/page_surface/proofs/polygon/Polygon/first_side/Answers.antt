use Rattle.std.proofs.Common.{arith}
use Rattle.std.proofs.lemmas.Grind.{common_steps}
use Rattle.page_surface.proofs.Tables.{first_side_read, first_sides_as_long}
use Rattle.page_surface.proofs.polygon.Polygon.first_side.Goals as goal

pub index-requires : goal.index-requires
index-requires c = let k = first_sides_as_long _ _ _ c.self.invariant in grind (arith, common_steps)

pub returns : goal.returns
returns c = first_side_read _ _ _ c.self.invariant _ c.self.view_is _ _ _ c.number.ensures.value c.requires c.index.ensures
