use Rattle.std.proofs.Common.{◌≡◌}
use Rattle.std.specs.List.{flat_map}
use Rattle.obd_base.specs.Lists.{below}
use Rattle.curve_paths.specs.Curves.{rho, signed}
use Rattle.path_words.proofs.pushes.push_along.Given as goal

-- what is set at the places so far
abbrev pub invariant-loop-place : goal.invariant-loop-place
invariant-loop-place l = l.push.items ≡ flat_map (λ j. signed l.polygon l.sign (rho l.polygon l.exits l.side j)) (below l.place)
