use Rattle.std.proofs.Common.{◌≡◌, ◌∙◌, ap, ap₂, sym, arith}
use Rattle.page_surface.specs.Drawing.{points_on}
use Rattle.drawing.specs.Points.{crossings_of, strand_of}
use Rattle.drawing.proofs.Generators.{contact_on_own}
use Rattle.hkm_diagram.proofs.Diagram.strand_of.Goals as goal

pub returns-else-point-points_on : goal.returns-else-point-points_on
returns-else-point-points_on c =
    let e = c.points_on.ensures.value ∙ ap₂ points_on c.self.view_is c.side_of-side.ensures.side in
    let last : c.args.point.number ≡ crossings_of c.args.self.now c.args.point.arc = omega (arith, e, c.if-point-points_on.false, c.requires.number) in
    c.new.ensures ∙ (c.number.ensures.value
    ∙ sym (ap (strand_of c.args.self.now c.args.point.arc) last ∙ contact_on_own c.args.self.now c.args.point.arc c.requires.arc))
