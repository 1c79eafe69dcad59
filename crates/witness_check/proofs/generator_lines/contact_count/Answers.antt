use Rattle.std.proofs.Common.{◌∙◌, ap, sym}
use Rattle.std.specs.Prelude.{ℕ, ◌/◌}
use Rattle.page_surface.specs.Drawing.{Drawing}
use Rattle.page_surface.specs.Polygon.{sides}
use Rattle.witness_check.proofs.ContactPoints.{points_counted}
use Rattle.witness_check.proofs.generator_lines.contact_count.Goals as goal

pub returns : goal.returns
returns c =
    ap (λ (n : ℕ). n / 2) (c.sides.ensures.value ∙ ap sides (c.polygon.ensures ∙ ap (λ (d : Drawing). d.polygon) c.drawing.ensures)) ∙ sym (points_counted c.args.diagram.now)
