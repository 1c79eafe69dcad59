use Rattle.std.proofs.Common.{◌≡◌, ◌-◌, ◌+◌, length}
use Rattle.witness_check.specs.Forms.{after_rows, read_rows}
use Rattle.witness_check.proofs.taking.read_rows.Given as goal

-- the rows so far were read, and the others are left
abbrev pub invariant-loop-number : goal.invariant-loop-number
invariant-loop-number g l =
    (read_rows (g.T.Row.form l.kind) 0 l.count l.initial.lines.left ≡ after_rows l.items (read_rows (g.T.Row.form l.kind) l.number (l.count - l.number) l.lines.left))
    × (length l.items ≡ l.number) × (l.lines.taken ≡ l.initial.lines.taken + l.number)
