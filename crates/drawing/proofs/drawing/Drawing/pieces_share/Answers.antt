use Rattle.std.proofs.Common.{ap, ◌∙◌}
use Rattle.page_surface.specs.Drawing.{exit, spot}
use Rattle.drawing.specs.Fingers.{borders, chord_at}
use Rattle.drawing.specs.Room.{Roomy}
use Rattle.drawing.proofs.drawing.Drawing.pieces_share.Goals as goal

pub returns : goal.returns
returns c = c.borders.ensures ∙ ap (λ (r : Roomy). borders r.drawing (chord_at r.drawing c.args.strand c.args.chord) (spot r.drawing (exit c.args.side c.args.segment))) c.self.view_is
