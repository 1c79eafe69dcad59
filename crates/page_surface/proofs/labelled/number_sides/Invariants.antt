use Rattle.std.proofs.Common.{◌≤◌, ◌+◌, drop, map, string_bytes}
use Rattle.indexmap.specs.IndexSet.{index_set_len}
use Rattle.page_surface.proofs.Numbered.{Numbered}
use Rattle.page_surface.proofs.labelled.number_sides.Given as goal

-- there are no more labels than before and names so far, and the labels and the sides so far, with those of the rest, are all
abbrev pub invariant-loop-name : goal.invariant-loop-name
invariant-loop-name l =
    (index_set_len l.labels ≤ index_set_len l.fn.labels + l.name-index)
    × Numbered (map string_bytes l.fn.labels.keys) (map string_bytes l.names) (map string_bytes (drop l.name-index l.names)) (map string_bytes l.labels.keys) l.sides
