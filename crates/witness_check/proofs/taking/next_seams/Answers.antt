use Rattle.std.proofs.Common.{sym, ◌∙◌}
use Rattle.witness_check.specs.Lines.{seams_line}
use Rattle.witness_check.proofs.Reading.{unsaid_end, unsaid_line}
use Rattle.witness_check.proofs.taking.next_seams.Goals as goal

pub returns-in_ok-read_seams-in-Some-clause-breaks : goal.returns-in_ok-read_seams-in-Some-clause-breaks
returns-in_ok-read_seams-in-Some-clause-breaks c =
    unsaid_line seams_line c.args.lines.now c.in-Some.line.now c.next.new.self.left c.number-number.result c.in_ok-read_seams-in-Some.field-0 c.said.result c.in-Some.ensures.some
    (λ e. sym c.in_ok-read_seams-in-Some.ensures ∙ e) c.number-number.ensures.value c.said.ensures.none

pub returns-in-None-clause-breaks : goal.returns-in-None-clause-breaks
returns-in-None-clause-breaks c = unsaid_end seams_line c.args.lines.now c.number-number.result _ c.said-in-None.result c.in-None.ensures.none c.number-number.ensures.value c.said-in-None.ensures.none
