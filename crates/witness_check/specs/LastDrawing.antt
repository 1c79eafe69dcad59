-- What is kept of the last drawing.
use Rattle.region_table.specs.Nice.{IsNice}
use Rattle.region_table.specs.Table.{IsTableOf}
use Rattle.witness_check.specs.declared.final_lines.LastDrawing.{LastDrawing}

-- a nice diagram with the table of its regions
pub record IsLast (last : LastDrawing) : Type 0 where
  pub table : IsTableOf last.diagram last.regions
  pub nice : IsNice last.diagram
