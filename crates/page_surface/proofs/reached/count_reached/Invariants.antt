use Rattle.std.proofs.Common.{◌≡◌, length}
use Rattle.page_surface.specs.Marks.{marked_within}
use Rattle.page_surface.proofs.reached.count_reached.Given as goal

-- the polygons are marked that are reached in so many rounds
abbrev pub invariant-loop : goal.invariant-loop
invariant-loop l = record { size : length l.marked.items ≡ length l.polygons; marks : l.marked.items ≡ marked_within l.polygons l.counter }
