use Rattle.std.proofs.Common.{sym, ◌∙◌, ap, option_map}
use Rattle.witness_check.specs.declared.entries.ContactLine.{ContactLine}
use Rattle.witness_check.specs.Lines.{contact_line}
use Rattle.witness_check.proofs.Reading.{unsaid_end, unsaid_line}
use Rattle.witness_check.proofs.taking.next_contact.Goals as goal

pub returns-in_ok-read_contact-in-Some-clause-breaks : goal.returns-in_ok-read_contact-in-Some-clause-breaks
returns-in_ok-read_contact-in-Some-clause-breaks c =
    unsaid_line (contact_line c.args.points) c.args.lines.now c.in-Some.line.now c.next.new.self.left c.number-number.result c.in_ok-read_contact-in-Some.field-0 c.said.result c.in-Some.ensures.some
    (λ e. sym c.in_ok-read_contact-in-Some.ensures ∙ ap (option_map (λ (k : ContactLine). (k.number, k.points))) e) c.number-number.ensures.value c.said.ensures.none

pub returns-in-None-clause-breaks : goal.returns-in-None-clause-breaks
returns-in-None-clause-breaks c = unsaid_end (contact_line c.args.points) c.args.lines.now c.number-number.result _ c.said-in-None.result c.in-None.ensures.none c.number-number.ensures.value c.said-in-None.ensures.none
