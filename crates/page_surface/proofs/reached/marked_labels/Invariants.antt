use Rattle.std.proofs.Common.{◌≡◌, ℕ, ◌<◌, false, length, get_or, take}
use Rattle.page_surface.specs.Marks.{is_marked}
use Rattle.page_surface.proofs.reached.marked_labels.Given as goal

-- the labels of the marked polygons so far are marked
abbrev pub invariant-loop-number : goal.invariant-loop-number
invariant-loop-number l = record {
  size : length l.labels.items ≡ l.label_count;
  marks : (label : ℕ) → label < l.label_count
      → get_or l.labels.items label false ≡ is_marked (take l.number l.polygons) (take l.number l.marked) label;
}
