use Rattle.std.proofs.Common.{◌/◌, ℕ, ◌∙◌, ap}
use Rattle.page_surface.specs.Drawing.{Drawing}
use Rattle.page_surface.specs.Polygon.{arc_count, sides}
use Rattle.witness_check.proofs.GeneratorsStage.{contact_breaks, contact_passed, contact_refuted, lent_contact, many_breaks, refused_from}
use Rattle.witness_check.proofs.HandedOn.{err_of}
use Rattle.witness_check.proofs.generators_stage.contact_stage.Goals as goal

pub returns-in_err-contact-clause-refuted : goal.returns-in_err-contact-clause-refuted
returns-in_err-contact-clause-refuted c =
    err_of _ c.in_err-contact.field-0.0 c.from_residual.result c.from_residual.ensures.1
    (λ text after. contact_breaks c.args.diagram.now c.args.count text c.args.lines.now after c.in_err-contact.field-0.0
    (many_breaks (c.sides-arcs.result / 2) (arc_count c.args.diagram.now.polygon) c.args.lines.now c.in_err-contact.field-0.0
    (ap (λ (k : ℕ). k / 2) (c.sides-arcs.ensures.value ∙ ap sides (c.polygon.ensures ∙ ap (λ (d : Drawing). d.polygon) c.drawing.ensures))) c.in_err-contact.ensures.breaks))

pub returns-in-None-clause-passed : goal.returns-in-None-clause-passed
returns-in-None-clause-passed c text after =
    contact_passed c.args.diagram.now c.args.count text c.args.lines.now after c.next_contact.new.lines c.in_ok-contact.contact.number c.as_slice.result.now
    (lent_contact (c.sides-arcs.result / 2) (arc_count c.args.diagram.now.polygon) c.args.lines.now c.next_contact.new.lines c.in_ok-contact.contact.number c.in_ok-contact.contact.points c.as_slice.result.now
    (ap (λ (k : ℕ). k / 2) (c.sides-arcs.ensures.value ∙ ap sides (c.polygon.ensures ∙ ap (λ (d : Drawing). d.polygon) c.drawing.ensures))) c.as_slice.ensures c.in_ok-contact.ensures.read)
    (λ k told. c.wrong_contact.ensures k told ∙ c.in-None.is)

pub returns-clause-refuted : goal.returns-clause-refuted
returns-clause-refuted c text after =
    contact_refuted c.args.diagram.now c.args.count text c.args.lines.now after c.next_contact.new.lines c.in_ok-contact.contact.number c.as_slice.result.now
    (lent_contact (c.sides-arcs.result / 2) (arc_count c.args.diagram.now.polygon) c.args.lines.now c.next_contact.new.lines c.in_ok-contact.contact.number c.in_ok-contact.contact.points c.as_slice.result.now
    (ap (λ (k : ℕ). k / 2) (c.sides-arcs.ensures.value ∙ ap sides (c.polygon.ensures ∙ ap (λ (d : Drawing). d.polygon) c.drawing.ensures))) c.as_slice.ensures c.in_ok-contact.ensures.read)
    c.number-first.result c.in-Some.fault c.refusal_at.result c.number-first.ensures.value c.number-first.ensures.few
    (λ k told. c.wrong_contact.ensures k told ∙ c.in-Some.is) (refused_from c.number-first.result c.in-Some.fault c.refusal_at.result c.refusal_at.ensures.fault)
