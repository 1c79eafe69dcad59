use Rattle.std.proofs.Common.{◌≡◌, ℕ, ◌<◌, false, get_or}
use Rattle.page_surface.specs.Drawing.{exit, is_at}
use Rattle.dehn_twist.proofs.ring.leaving.Given as goal

-- no exit so far is at the point
abbrev pub invariant-loop-number : goal.invariant-loop-number
invariant-loop-number l = (k : ℕ) → k < l.number → is_at (get_or l.exits k (exit 0 0)) l.side l.place ≡ false
