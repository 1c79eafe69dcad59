use Rattle.std.proofs.Common.{subst}
use Rattle.std.specs.Prelude.{length, ◌/◌}
use Rattle.witness_check.specs.Forms.{one}
use Rattle.witness_check.specs.Grammar.{drawn_form}
use Rattle.witness_check.specs.Lines.{basis_line, seams_line}
use Rattle.witness_check.specs.Passing.{BreaksAt}
use Rattle.witness_check.specs.Stages.{basis_on, seams_on}
use Rattle.witness_check.proofs.Reading.{first_breaks, handed_on, second_breaks}
use Rattle.witness_check.proofs.parsing.read_joined.Goals as goal

pub returns-in_err-seams-clause-breaks : goal.returns-in_err-seams-clause-breaks
returns-in_err-seams-clause-breaks c =
    handed_on (one seams_line) seams_on c.args.lines.now c.args.lines.now (λ line b. first_breaks (one seams_line) (λ seams. basis_on) c.args.lines.now line b)
    c.in_err-seams.field-0.0 c.from_residual.result c.from_residual.ensures.1 c.in_err-seams.ensures.breaks

pub returns-in_err-basis-clause-breaks : goal.returns-in_err-basis-clause-breaks
returns-in_err-basis-clause-breaks c =
    handed_on (one basis_line) seams_on c.next_seams.new.lines c.args.lines.now (λ line b. second_breaks (one seams_line) (λ seams. basis_on) c.args.lines.now c.next_seams.new.lines c.in_ok-seams.seams line c.in_ok-seams.ensures.read (first_breaks (one basis_line) (λ basis. drawn_form (length basis / 2)) c.next_seams.new.lines line b))
    c.in_err-basis.field-0.0 c.from_residual-in_err-basis.result c.from_residual-in_err-basis.ensures.1 c.in_err-basis.ensures.breaks

pub returns-in_err-drawn-clause-breaks : goal.returns-in_err-drawn-clause-breaks
returns-in_err-drawn-clause-breaks c =
    handed_on (drawn_form (c.len.result / 2)) seams_on c.next_basis.new.lines c.args.lines.now (λ line b. second_breaks (one seams_line) (λ seams. basis_on) c.args.lines.now c.next_seams.new.lines c.in_ok-seams.seams line c.in_ok-seams.ensures.read (second_breaks (one basis_line) (λ basis. drawn_form (length basis / 2)) c.next_seams.new.lines c.next_basis.new.lines c.in_ok-basis.basis line c.in_ok-basis.ensures.read (subst (λ m. BreaksAt (drawn_form (m / 2)) c.next_basis.new.lines line) c.len.ensures b)))
    c.in_err-drawn.field-0.0 c.from_residual-in_err-drawn.result c.from_residual-in_err-drawn.ensures.1 c.in_err-drawn.ensures.breaks
