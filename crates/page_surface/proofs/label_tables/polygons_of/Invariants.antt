use Rattle.std.proofs.Common.{◌≡◌, ◌≤◌, ℕ, ◌+◌, ◌<◌, length, get_or, drop}
use Rattle.std.specs.List.{position_or_len}
use Rattle.page_surface.specs.Joining.{has_side, side}
use Rattle.page_surface.proofs.label_tables.polygons_of.Given as goal

-- the table holds the first polygon of each label from this one on
abbrev pub invariant-loop-polygon : goal.invariant-loop-polygon
invariant-loop-polygon l = record {
  within : l.polygon ≤ length l.polygons;
  size : length l.table.items ≡ l.label_count;
  first : (label : ℕ) → label < l.label_count
      → get_or l.table.items label 0 ≡ l.polygon + position_or_len (has_side (side label l.occurrence)) (drop l.polygon l.polygons);
}

abbrev pub decreases-loop-polygon : goal.decreases-loop-polygon
decreases-loop-polygon l = l.polygon
