use Rattle.std.proofs.Common.{◌∙◌}
use Rattle.witness_check.specs.Lines.{end_line}
use Rattle.witness_check.proofs.LineReaders.{end_read, read_form}
use Rattle.witness_check.proofs.row.is_end.Goals as goal

pub returns : goal.returns
returns c = c.is_some.ensures ∙ read_form end_line c.args.line.now c.end.result (c.end.ensures ∙ end_read c.args.line.now)
