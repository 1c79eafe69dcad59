use Rattle.std.proofs.Common.{◌∙◌}
use Rattle.witness_check.specs.Lines.{version_line}
use Rattle.witness_check.proofs.LineReaders.{read_form, version_read}
use Rattle.witness_check.proofs.row.read_version.Goals as goal

pub returns : goal.returns
returns c = c.is_some.ensures ∙ read_form version_line c.args.line.now c.version.result (c.version.ensures ∙ version_read c.args.line.now)
