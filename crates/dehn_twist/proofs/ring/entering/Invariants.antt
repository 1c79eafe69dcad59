use Rattle.std.proofs.Common.{◌≡◌, ℕ, ◌<◌, false, get_or}
use Rattle.page_surface.specs.Drawing.{exit, is_at}
use Rattle.curve_paths.specs.Curves.{curve_entry}
use Rattle.dehn_twist.proofs.ring.entering.Given as goal

-- no exit so far enters at the point
abbrev pub invariant-loop-number : goal.invariant-loop-number
invariant-loop-number l =
    (k : ℕ) → k < l.number → is_at (curve_entry l.merged.drawing.polygon l.merged.curve (get_or l.merged.curve k (exit 0 0))) l.side l.place ≡ false
