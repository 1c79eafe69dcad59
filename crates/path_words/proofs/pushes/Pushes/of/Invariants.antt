use Rattle.std.proofs.Common.{◌≡◌, map}
use Rattle.obd_base.specs.Lists.{below}
use Rattle.page_surface.specs.Words.{reduced}
use Rattle.curve_paths.specs.Curves.{push_at}
use Rattle.path_words.proofs.pushes.Pushes.of.Given as goal

-- the reduced pushes along the sides so far
abbrev pub invariant-loop-side : goal.invariant-loop-side
invariant-loop-side l = l.words ≡ map (λ k. reduced l.polygon (push_at l.polygon l.curve l.sign k)) (below l.side)
