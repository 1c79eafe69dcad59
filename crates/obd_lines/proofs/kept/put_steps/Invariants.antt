use Rattle.region_table.specs.Table.{IsTableOf}
use Rattle.obd_lines.proofs.kept.put_steps.Given as goal

-- the table is that of the drawing
abbrev pub invariant-loop-word : goal.invariant-loop-word
invariant-loop-word l = IsTableOf l.drawing.drawing l.regions
