use Rattle.std.proofs.Common.{map, drop}
use Rattle.obd_base.specs.declared.points.Column.{Column}
use Rattle.mod2_rank.specs.Ascending.{AllAscend}
use Rattle.obd_lines.proofs.columns.all_ascend.Given as goal

-- all columns ascend where those from here on do
abbrev pub invariant-loop-column : goal.invariant-loop-column
invariant-loop-column l = AllAscend l.rows (map (λ (c : Column). c.rows) (drop l.column-index l.columns)) → AllAscend l.rows (map (λ (c : Column). c.rows) l.columns)
