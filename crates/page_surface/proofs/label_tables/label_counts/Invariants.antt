use Rattle.std.proofs.Common.{◌≡◌, ℕ, ◌<◌, length, get_or, take, count_by}
use Rattle.std.specs.List.{flat_map}
use Rattle.page_surface.specs.Marks.{is_of}
use Rattle.page_surface.proofs.label_tables.label_counts.Given as goal

-- each label has been counted on the polygons so far
abbrev pub invariant-loop-polygon : goal.invariant-loop-polygon
invariant-loop-polygon l = record {
  size : length l.counts.items ≡ l.label_count;
  counts : (label : ℕ) → label < l.label_count
      → get_or l.counts.items label 0 ≡ count_by (is_of label) (flat_map (λ polygon. polygon) (take l.polygon-index l.polygons));
}
