use Rattle.std.proofs.Common.{◌≡◌, [], map, take, string_bytes}
use Rattle.page_surface.specs.Labels.{labels_of, side_labels_of}
use Rattle.page_surface.proofs.labelled.Labelled.of.Given as goal

-- the tables are those of the polygons so far
abbrev pub invariant-loop-polygon : goal.invariant-loop-polygon
invariant-loop-polygon l = record {
  copied_are : l.copied ≡ map (λ p. map string_bytes p.items) (take l.polygon-index l.polygons);
  labels_are : map string_bytes l.labels.keys ≡ labels_of (map (λ p. map string_bytes p.items) (take l.polygon-index l.polygons));
  sides_are : l.sides ≡ side_labels_of [] (map (λ p. map string_bytes p.items) (take l.polygon-index l.polygons));
}
