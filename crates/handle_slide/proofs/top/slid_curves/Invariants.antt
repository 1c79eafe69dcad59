use Rattle.std.proofs.Common.{◌≡◌, map, take, None}
use Rattle.handle_slide.specs.Refused.{first_long}
use Rattle.handle_slide.specs.Slide.{slid_curve}
use Rattle.handle_slide.proofs.top.slid_curves.Given as goal

-- the curves so far, none of them too long
abbrev pub invariant-loop-number : goal.invariant-loop-number
invariant-loop-number l =
    (l.slid ≡ map (slid_curve l.polygon l.side) (take l.number l.curves))
    × (first_long l.polygon l.side (take l.number l.curves) ≡ None)
