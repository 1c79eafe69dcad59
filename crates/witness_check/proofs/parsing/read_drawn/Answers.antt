use Rattle.std.specs.Prelude.{codes}
use Rattle.witness_check.specs.Forms.{one, rows}
use Rattle.witness_check.specs.Grammar.{drawn_form, outcome_form}
use Rattle.witness_check.specs.Lines.{contact_line, counted, finger_line, number_line, strand_line}
use Rattle.witness_check.specs.Parsing.{outcome_fields}
use Rattle.witness_check.specs.Stages.{contact_on, finals_on, fingers_on, generators_on}
use Rattle.witness_check.proofs.Reading.{both_whole, first_breaks, handed_on, second_breaks}
use Rattle.witness_check.proofs.parsing.read_drawn.Goals as goal

pub returns-in_err-strands-clause-breaks : goal.returns-in_err-strands-clause-breaks
returns-in_err-strands-clause-breaks c =
    handed_on (rows (strand_line (codes "strand")) c.args.count) (drawn_form c.args.count) c.args.lines.now c.args.lines.now (λ line b. first_breaks (rows (strand_line (codes "strand")) c.args.count) (λ strands. fingers_on c.args.count) c.args.lines.now line b)
    c.in_err-strands.field-0.0 c.from_residual.result c.from_residual.ensures.1 c.in_err-strands.ensures.breaks

pub returns-in_err-fingers-clause-breaks : goal.returns-in_err-fingers-clause-breaks
returns-in_err-fingers-clause-breaks c =
    handed_on (counted (codes "fingers") finger_line) (drawn_form c.args.count) c.next_rows.new.lines c.args.lines.now (λ line b. second_breaks (rows (strand_line (codes "strand")) c.args.count) (λ strands. fingers_on c.args.count) c.args.lines.now c.next_rows.new.lines c.in_ok-strands.strands line c.in_ok-strands.ensures.read (first_breaks (counted (codes "fingers") finger_line) (λ fingers. finals_on c.args.count) c.next_rows.new.lines line b))
    c.in_err-fingers.field-0.0 c.from_residual-in_err-fingers.result c.from_residual-in_err-fingers.ensures.1 c.in_err-fingers.ensures.breaks

pub returns-in_err-finals-clause-breaks : goal.returns-in_err-finals-clause-breaks
returns-in_err-finals-clause-breaks c =
    handed_on (rows (strand_line (codes "final")) c.args.count) (drawn_form c.args.count) c.next_list.new.lines c.args.lines.now (λ line b. second_breaks (rows (strand_line (codes "strand")) c.args.count) (λ strands. fingers_on c.args.count) c.args.lines.now c.next_rows.new.lines c.in_ok-strands.strands line c.in_ok-strands.ensures.read (second_breaks (counted (codes "fingers") finger_line) (λ fingers. finals_on c.args.count) c.next_rows.new.lines c.next_list.new.lines c.in_ok-fingers.fingers line c.in_ok-fingers.ensures.read (first_breaks (rows (strand_line (codes "final")) c.args.count) (λ finals. generators_on c.args.count) c.next_list.new.lines line b)))
    c.in_err-finals.field-0.0 c.from_residual-in_err-finals.result c.from_residual-in_err-finals.ensures.1 c.in_err-finals.ensures.breaks

pub returns-in_err-generators-clause-breaks : goal.returns-in_err-generators-clause-breaks
returns-in_err-generators-clause-breaks c =
    handed_on (one (number_line (codes "generators"))) (drawn_form c.args.count) c.next_rows-2.new.lines c.args.lines.now (λ line b. second_breaks (rows (strand_line (codes "strand")) c.args.count) (λ strands. fingers_on c.args.count) c.args.lines.now c.next_rows.new.lines c.in_ok-strands.strands line c.in_ok-strands.ensures.read (second_breaks (counted (codes "fingers") finger_line) (λ fingers. finals_on c.args.count) c.next_rows.new.lines c.next_list.new.lines c.in_ok-fingers.fingers line c.in_ok-fingers.ensures.read (second_breaks (rows (strand_line (codes "final")) c.args.count) (λ finals. generators_on c.args.count) c.next_list.new.lines c.next_rows-2.new.lines c.in_ok-finals.finals line c.in_ok-finals.ensures.read (first_breaks (one (number_line (codes "generators"))) (λ generators. contact_on c.args.count) c.next_rows-2.new.lines line b))))
    c.in_err-generators.field-0.0 c.from_residual-in_err-generators.result c.from_residual-in_err-generators.ensures.1 c.in_err-generators.ensures.breaks

pub returns-in_err-contact-clause-breaks : goal.returns-in_err-contact-clause-breaks
returns-in_err-contact-clause-breaks c =
    handed_on (one (contact_line c.args.count)) (drawn_form c.args.count) c.next_number.new.lines c.args.lines.now (λ line b. second_breaks (rows (strand_line (codes "strand")) c.args.count) (λ strands. fingers_on c.args.count) c.args.lines.now c.next_rows.new.lines c.in_ok-strands.strands line c.in_ok-strands.ensures.read (second_breaks (counted (codes "fingers") finger_line) (λ fingers. finals_on c.args.count) c.next_rows.new.lines c.next_list.new.lines c.in_ok-fingers.fingers line c.in_ok-fingers.ensures.read (second_breaks (rows (strand_line (codes "final")) c.args.count) (λ finals. generators_on c.args.count) c.next_list.new.lines c.next_rows-2.new.lines c.in_ok-finals.finals line c.in_ok-finals.ensures.read (second_breaks (one (number_line (codes "generators"))) (λ generators. contact_on c.args.count) c.next_rows-2.new.lines c.next_number.new.lines c.in_ok-generators.generators line c.in_ok-generators.ensures.read (first_breaks (one (contact_line c.args.count)) (λ contact. outcome_form) c.next_number.new.lines line b)))))
    c.in_err-contact.field-0.0 c.from_residual-in_err-contact.result c.from_residual-in_err-contact.ensures.1 c.in_err-contact.ensures.breaks

pub returns-in_err-outcome-clause-breaks : goal.returns-in_err-outcome-clause-breaks
returns-in_err-outcome-clause-breaks c =
    handed_on outcome_form (drawn_form c.args.count) c.next_contact.new.lines c.args.lines.now (λ line b. second_breaks (rows (strand_line (codes "strand")) c.args.count) (λ strands. fingers_on c.args.count) c.args.lines.now c.next_rows.new.lines c.in_ok-strands.strands line c.in_ok-strands.ensures.read (second_breaks (counted (codes "fingers") finger_line) (λ fingers. finals_on c.args.count) c.next_rows.new.lines c.next_list.new.lines c.in_ok-fingers.fingers line c.in_ok-fingers.ensures.read (second_breaks (rows (strand_line (codes "final")) c.args.count) (λ finals. generators_on c.args.count) c.next_list.new.lines c.next_rows-2.new.lines c.in_ok-finals.finals line c.in_ok-finals.ensures.read (second_breaks (one (number_line (codes "generators"))) (λ generators. contact_on c.args.count) c.next_rows-2.new.lines c.next_number.new.lines c.in_ok-generators.generators line c.in_ok-generators.ensures.read (second_breaks (one (contact_line c.args.count)) (λ contact. outcome_form) c.next_number.new.lines c.next_contact.new.lines (c.in_ok-contact.contact.number, c.in_ok-contact.contact.points) line c.in_ok-contact.ensures.read (b))))))
    c.in_err-outcome.field-0.0 c.from_residual-in_err-outcome.result c.from_residual-in_err-outcome.ensures.1 c.in_err-outcome.ensures.breaks

pub returns-clause-read : goal.returns-clause-read
returns-clause-read c =
    both_whole (rows (strand_line (codes "strand")) c.args.count) (λ strands. fingers_on c.args.count) c.args.lines.now c.next_rows.new.lines c.read_outcome.new.lines c.in_ok-strands.strands (c.in_ok-fingers.fingers, (c.in_ok-finals.finals, (c.in_ok-generators.generators, ((c.in_ok-contact.contact.number, c.in_ok-contact.contact.points), (outcome_fields c.in_ok-outcome.outcome))))) c.in_ok-strands.ensures.read (both_whole (counted (codes "fingers") finger_line) (λ fingers. finals_on c.args.count) c.next_rows.new.lines c.next_list.new.lines c.read_outcome.new.lines c.in_ok-fingers.fingers (c.in_ok-finals.finals, (c.in_ok-generators.generators, ((c.in_ok-contact.contact.number, c.in_ok-contact.contact.points), (outcome_fields c.in_ok-outcome.outcome)))) c.in_ok-fingers.ensures.read (both_whole (rows (strand_line (codes "final")) c.args.count) (λ finals. generators_on c.args.count) c.next_list.new.lines c.next_rows-2.new.lines c.read_outcome.new.lines c.in_ok-finals.finals (c.in_ok-generators.generators, ((c.in_ok-contact.contact.number, c.in_ok-contact.contact.points), (outcome_fields c.in_ok-outcome.outcome))) c.in_ok-finals.ensures.read (both_whole (one (number_line (codes "generators"))) (λ generators. contact_on c.args.count) c.next_rows-2.new.lines c.next_number.new.lines c.read_outcome.new.lines c.in_ok-generators.generators ((c.in_ok-contact.contact.number, c.in_ok-contact.contact.points), (outcome_fields c.in_ok-outcome.outcome)) c.in_ok-generators.ensures.read (both_whole (one (contact_line c.args.count)) (λ contact. outcome_form) c.next_number.new.lines c.next_contact.new.lines c.read_outcome.new.lines (c.in_ok-contact.contact.number, c.in_ok-contact.contact.points) (outcome_fields c.in_ok-outcome.outcome) c.in_ok-contact.ensures.read (c.in_ok-outcome.ensures.read)))))
