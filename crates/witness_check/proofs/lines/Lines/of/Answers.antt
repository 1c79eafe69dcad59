use Rattle.std.proofs.Common.{arith, sym, ◌∙◌}
use Rattle.witness_check.proofs.LinesTaken.{version_long}
use Rattle.witness_check.proofs.lines.Lines.of.Goals as goal

pub invariant_of-result : goal.invariant_of-result
invariant_of-result c = let long = version_long c.in_ok-line.line.now (sym c.read_version.ensures ∙ c.if-not-read_version.false) in let size = c.in_ok-line.ensures.size in omega (arith, long, size, c.requires)
