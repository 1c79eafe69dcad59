use Rattle.std.proofs.Common.{◌∙◌, ap, arith, sym}
use Rattle.obd_base.specs.declared.points.Point.{Point}
use Rattle.drawing.specs.Points.{crossings_of}
use Rattle.witness_check.proofs.ContactPoints.{point_of, points_counted}
use Rattle.witness_check.proofs.generator_lines.contact_point.Goals as goal

pub contact-requires : goal.contact-requires
contact-requires c = omega (arith, c.requires, points_counted c.args.diagram.now, c.new.ensures)

pub returns : goal.returns
returns c =
    ap (λ (point : Point). point.number) c.contact.ensures
    ∙ (ap (crossings_of c.args.diagram.now) c.new.ensures ∙ sym (point_of c.args.diagram.now c.args.arc c.contact.result.number c.requires))
