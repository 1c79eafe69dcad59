use Rattle.std.proofs.Common.{◌≡◌, map, take, string_bytes}
use Rattle.witness_check.proofs.page_lines.labels_of.Given as goal

-- the labels so far are those of the polygons before this one
abbrev pub invariant-loop-polygon : goal.invariant-loop-polygon
invariant-loop-polygon l = map (λ p. map string_bytes p.items) l.labels.items ≡ take l.polygon-index l.polygons
