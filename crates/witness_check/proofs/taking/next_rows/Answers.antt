use Rattle.std.proofs.Common.{subst}
use Rattle.witness_check.specs.Passing.{RowsRead}
use Rattle.witness_check.proofs.Reading.{rows_whole}
use Rattle.witness_check.proofs.taking.next_rows.Goals as goal

pub returns-in-None-clause-read : goal.returns-in-None-clause-read
returns-in-None-clause-read g c =
    rows_whole (g.T.Row.form c.args.kind.now) c.args.count c.args.lines.now c.read_rows.new.lines c.in_ok-rows.rows.items
    (subst (RowsRead (g.T.Row.form c.args.kind.now) c.args.count c.args.lines.now c.read_rows.new.lines c.in_ok-rows.rows.items) c.in-None.is c.in_ok-rows.ensures)
