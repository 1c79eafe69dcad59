use Rattle.std.specs.Str.{bytes_eq}
use Rattle.witness_check.specs.BookRules.{label_names}
use Rattle.witness_check.proofs.SameLists.{Alike}
use Rattle.witness_check.proofs.basis_lines.are_named.Given as goal

-- the names before this one are those of the labels
abbrev pub invariant-loop-number : goal.invariant-loop-number
invariant-loop-number l = Alike bytes_eq l.names (label_names l.page l.labels) l.number
