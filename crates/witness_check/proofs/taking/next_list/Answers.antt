use Rattle.witness_check.specs.Forms.{one, rows}
use Rattle.witness_check.specs.Lines.{number_line}
use Rattle.witness_check.specs.Passing.{counted_rows}
use Rattle.witness_check.proofs.Reading.{count_breaks, counted_breaks, given_on, handed_on}
use Rattle.witness_check.proofs.taking.next_list.Goals as goal

pub returns-in_err-count-clause-breaks : goal.returns-in_err-count-clause-breaks
returns-in_err-count-clause-breaks g c =
    handed_on (one (number_line c.args.many.now)) (counted_rows c.args.many.now (g.T.Row.form c.args.one.now)) c.args.lines.now c.args.lines.now
    (λ line b. count_breaks c.args.many.now (g.T.Row.form c.args.one.now) c.args.lines.now line b)
    c.in_err-count.field-0.0 c.from_residual.result c.from_residual.ensures.1 c.in_err-count.ensures.breaks

pub returns-clause-breaks : goal.returns-clause-breaks
returns-clause-breaks g c =
    given_on (rows (g.T.Row.form c.args.one.now) c.in_ok-count.count) (counted_rows c.args.many.now (g.T.Row.form c.args.one.now)) c.next_number.new.lines c.args.lines.now
    (λ line b. counted_breaks c.args.many.now (g.T.Row.form c.args.one.now) c.args.lines.now c.next_number.new.lines c.in_ok-count.count line c.in_ok-count.ensures.read b)
    c.next_rows.result c.next_rows.ensures.breaks
