use Rattle.std.proofs.Common.{◌≡◌, map}
use Rattle.drawing.specs.Pieces.{piece_of}
use Rattle.obd_base.specs.Lists.{below}
use Rattle.empty_domains.proofs.walks.first_spans.Given as goal

-- those of the spans so far
abbrev pub invariant-loop-at : goal.invariant-loop-at
invariant-loop-at l = l.firsts.items ≡ map (piece_of l.diagram) (below l.at)
