use Rattle.std.proofs.Common.{◌≡◌, map, take, string_bytes}
use Rattle.obd_doc.proofs.document.polygon_strings.Given as goal

-- the texts of the polygons so far
abbrev pub invariant-loop-polygon : goal.invariant-loop-polygon
invariant-loop-polygon l = map (λ p. map string_bytes p.items) l.texts.items ≡ take l.polygon-index l.polygons
