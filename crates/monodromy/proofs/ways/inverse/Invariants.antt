use Rattle.std.proofs.Common.{◌≡◌, ◌<◌, length, All}
use Rattle.page_surface.specs.Polygon.{sides}
use Rattle.monodromy.proofs.ways.inverse.Given as goal

-- what is there so far are sides, as many as were passed
abbrev pub invariant-loop-side : goal.invariant-loop-side
invariant-loop-side l = record {
  in_range : All (λ s. s < sides l.polygon) l.back.items;
  size : length l.back.items ≡ length l.yielded;
}
