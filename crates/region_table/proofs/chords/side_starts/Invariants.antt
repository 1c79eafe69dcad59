use Rattle.std.proofs.Common.{◌≡◌, ◌+◌, map}
use Rattle.obd_base.specs.Lists.{below}
use Rattle.page_surface.specs.Drawing.{offset}
use Rattle.region_table.proofs.chords.side_starts.Given as goal

-- the sides so far, and where the next one begins
abbrev pub invariant-loop-side : goal.invariant-loop-side
invariant-loop-side l = record {
  here : l.start ≡ offset l.drawing.drawing l.side;
  so_far : l.starts.items ≡ map (offset l.drawing.drawing) (below (l.side + 1));
}
