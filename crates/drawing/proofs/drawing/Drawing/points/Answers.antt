use Rattle.std.proofs.Common.{subst, ap}
use Rattle.page_surface.specs.Drawing.{IsEmbedded}
use Rattle.drawing.specs.Room.{Roomy}
use Rattle.drawing.proofs.Laws.{always_cut}
use Rattle.drawing.proofs.drawing.Drawing.points.Goals as goal

pub returns-clause-cut : goal.returns-clause-cut
returns-clause-cut c = always_cut _ (subst IsEmbedded (ap (λ (r : Roomy). r.drawing) c.self.view_is) c.self.invariant.embedded)
