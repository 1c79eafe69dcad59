use Rattle.std.proofs.Common.{◌≡◌, ◌++◌, codes, take}
use Rattle.witness_check.specs.Line.{lines}
use Rattle.witness_check.specs.Text.{polygon_words}
use Rattle.witness_check.proofs.printed.put_polygons.Given as goal

-- the polygons so far were appended
abbrev pub invariant-loop-labels : goal.invariant-loop-labels
invariant-loop-labels l = l.text ≡ l.initial.text ++ lines (codes "polygon") polygon_words (take l.labels-index l.polygons)
