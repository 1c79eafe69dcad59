use Rattle.std.proofs.Common.{◌≡◌, ◌++◌, take}
use Rattle.witness_check.specs.Line.{row_lines}
use Rattle.witness_check.proofs.line.put_rows.Given as goal

-- the rows so far were appended
abbrev pub invariant-loop-number : goal.invariant-loop-number
invariant-loop-number g l = l.text ≡ l.initial.text ++ row_lines l.kind g.T.Word.word (take l.number l.rows)
