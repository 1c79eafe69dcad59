use Rattle.std.proofs.Common.{◌≤◌}
use Rattle.drawing.specs.Pieces.{span_count}
use Rattle.empty_domains.specs.Kept.{IsRuns}
use Rattle.empty_domains.proofs.drawing_tables.runs.Given as goal

-- how far rows run on from the numbers that were looked at
abbrev pub invariant-loop-at : goal.invariant-loop-at
invariant-loop-at l = record {
  inside : l.at ≤ span_count l.diagram;
  runs : IsRuns l.diagram l.at l.run.items;
}

-- the numbers that are left
abbrev pub decreases-loop-at : goal.decreases-loop-at
decreases-loop-at l = l.at
