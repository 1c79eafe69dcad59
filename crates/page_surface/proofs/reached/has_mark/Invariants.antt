use Rattle.std.proofs.Common.{◌≡◌, false, get_or, take}
use Rattle.std.specs.List.{list_any}
use Rattle.page_surface.proofs.reached.has_mark.Given as goal

-- no side so far has a marked label
abbrev pub invariant-loop-side : goal.invariant-loop-side
invariant-loop-side l = list_any (λ s. get_or l.labels s.label false) (take l.side-index l.sides) ≡ false
