use Rattle.std.proofs.Common.{◌≡◌, ℕ, ◌<◌, false, get_or, map, string_bytes, []}
use Rattle.page_surface.specs.Page.{is_empty}
use Rattle.page_surface.proofs.rules.first_empty.Given as goal

-- no polygon so far is empty
abbrev pub invariant-loop-number : goal.invariant-loop-number
invariant-loop-number l = (k : ℕ) → k < l.number → is_empty (get_or (map (λ p. map string_bytes p.items) l.polygons) k []) ≡ false
