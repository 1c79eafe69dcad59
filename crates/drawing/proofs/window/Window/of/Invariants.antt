use Rattle.std.proofs.Common.{◌≡◌, ◌+◌, ◌-◌, ◌<◌, ◌^◌, ◌%◌, ℕ, get_or, length}
use Rattle.page_surface.specs.Drawing.{end_of, offset, spot}
use Rattle.page_surface.specs.Polygon.{partner}
use Rattle.drawing.proofs.window.Window.of.Given as goal

-- the numbers of the sides so far
abbrev pub invariant-loop-side : goal.invariant-loop-side
invariant-loop-side l = record {
  exits_size : length l.exits ≡ 16;
  entries_size : length l.entries ≡ 16;
  exits : (k : ℕ) → k < l.side → get_or l.exits k 0 ≡ (offset l.layout.drawing k + (2 ^ 32 - l.first)) % 2 ^ 32;
  entries : (k : ℕ) → k < l.side → get_or l.entries k 0 ≡ (spot l.layout.drawing (end_of l.layout.drawing (partner l.layout.drawing.polygon k)) + (2 ^ 32 - (l.first + 1))) % 2 ^ 32;
}
