use Rattle.std.proofs.Common.{sym, ◌∙◌}
use Rattle.witness_check.proofs.ContactPoints.{contact_found}
use Rattle.witness_check.proofs.generator_lines.wrong_contact.Goals as goal

pub returns-then-is_contact : goal.returns-then-is_contact
returns-then-is_contact c =
    contact_found c.args.diagram.now c.args.count c.args.contact c.args.points.now _ (sym c.if-is_contact.true ∙ c.is_contact.ensures)

pub returns : goal.returns
returns c =
    contact_found c.args.diagram.now c.args.count c.args.contact c.args.points.now _ (sym c.if-is_contact.false ∙ c.is_contact.ensures)
