use Rattle.std.proofs.Common.{◌∙◌, ap₂, arith}
use Rattle.page_surface.specs.Drawing.{points_on}
use Rattle.hkm_diagram.proofs.Diagram.points_of.Goals as goal

pub returns : goal.returns
returns c = let e = c.points_on.ensures.value ∙ ap₂ points_on c.self.view_is c.side_of.ensures.side in omega (arith, e)
