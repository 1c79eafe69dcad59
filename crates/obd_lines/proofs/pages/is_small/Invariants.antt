use Rattle.std.proofs.Common.{◌≡◌, map, length, take, string_bytes}
use Rattle.page_surface.specs.Labels.{all_sides}
use Rattle.obd_lines.proofs.pages.is_small.Given as goal

-- the sides of the polygons so far
abbrev pub invariant-loop-labels : goal.invariant-loop-labels
invariant-loop-labels l = l.sides ≡ length (all_sides (map (λ p. map string_bytes p.items) (take l.labels-index l.polygons)))
