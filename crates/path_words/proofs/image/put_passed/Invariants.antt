use Rattle.std.proofs.Common.{◌≡◌, ◌+◌, ◌%◌, map}
use Rattle.std.specs.List.{flat_map}
use Rattle.obd_base.specs.Lists.{below}
use Rattle.page_surface.specs.Polygon.{sides}
use Rattle.path_words.specs.Pushes.{push_of}
use Rattle.path_words.proofs.Stacks.{Stacked}
use Rattle.path_words.proofs.image.put_passed.Given as goal

-- the side that was passed last, and what is set along the sides so far
abbrev pub invariant-loop-step : goal.invariant-loop-step
invariant-loop-step l =
    (l.side ≡ (l.fn.from + l.step) % sides l.polygon)
    × Stacked l.polygon l.fn.word.items (flat_map (push_of l.pushes) (map (λ i. (l.fn.from + 1 + i) % sides l.polygon) (below l.step))) l.word.items
