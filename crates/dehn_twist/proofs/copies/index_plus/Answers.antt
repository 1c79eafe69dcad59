use Rattle.dehn_twist.proofs.BuildLaws.{line_plus_high, line_plus_low}
use Rattle.std.proofs.Common.{sym}
use Rattle.dehn_twist.proofs.copies.index_plus.Goals as goal

pub returns-then-line-upto-clause-value : goal.returns-then-line-upto-clause-value
returns-then-line-upto-clause-value c = sym (line_plus_low c.args.lines c.args.upto c.args.line c.if-line-upto.true c.requires.upto)

pub returns-else-line-upto-clause-value : goal.returns-else-line-upto-clause-value
returns-else-line-upto-clause-value c = sym (line_plus_high c.args.lines c.args.upto c.args.line c.if-line-upto.false c.requires.line)
