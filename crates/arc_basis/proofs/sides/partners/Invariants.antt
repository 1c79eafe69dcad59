use Rattle.std.proofs.Common.{◌≡◌, take, map}
use Rattle.std.specs.List.{position_or_len}
use Rattle.page_surface.specs.Joining.{is_side, other_side}
use Rattle.arc_basis.proofs.sides.partners.Given as goal

-- the partners of the sides so far
abbrev pub invariant-loop-side : goal.invariant-loop-side
invariant-loop-side l = l.pairs.items ≡ map (λ s. position_or_len (is_side (other_side s)) l.sides) (take l.side-index l.sides)
