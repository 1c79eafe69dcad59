use Rattle.std.proofs.Common.{◌≡◌, map, take, get_or}
use Rattle.page_surface.specs.Polygon.{partner}
use Rattle.handle_slide.proofs.sides.renumbered.Given as goal

-- the partners so far
abbrev pub invariant-loop-side : goal.invariant-loop-side
invariant-loop-side l = l.pairs.items ≡ map (λ s. get_or l.numbers (partner l.polygon s) 0) (take l.side-index l.order)
