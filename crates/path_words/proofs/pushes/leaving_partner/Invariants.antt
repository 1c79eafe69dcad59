use Rattle.std.proofs.Common.{◌≡◌, ℕ, ◌<◌, ◌&&◌, false, get_or, nat_eq}
use Rattle.page_surface.specs.Drawing.{exit}
use Rattle.page_surface.specs.Polygon.{partner}
use Rattle.path_words.proofs.pushes.leaving_partner.Given as goal

-- no exit so far is at the place and leaves by the partner
abbrev pub invariant-loop-number : goal.invariant-loop-number
invariant-loop-number l =
    (k : ℕ) → k < l.number
    → (nat_eq (partner l.polygon (get_or l.exits k (exit 0 0)).side) l.side && nat_eq (get_or l.exits k (exit 0 0)).place l.place) ≡ false
