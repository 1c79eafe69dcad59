use Rattle.std.proofs.Common.{drop}
use Rattle.mod2_rank.specs.Linear.{Ascends}
use Rattle.obd_lines.proofs.columns.ascends.Given as goal

-- the column ascends where the rows from here on do
abbrev pub invariant-loop-row : goal.invariant-loop-row
invariant-loop-row l = Ascends l.least l.rows (drop l.row-index l.column) → Ascends 0 l.rows l.column
