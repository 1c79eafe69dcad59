use Rattle.std.proofs.Common.{◌∙◌, ap, arith}
use Rattle.std.specs.List.{sum_by}
use Rattle.std.proofs.lemmas.List.{take_all}
use Rattle.boundary_map.proofs.Corners.{all_added, corners_told}
use Rattle.drawing.proofs.Lists.{mem_at}
use Rattle.boundary_map.proofs.rules.all_corners.Goals as goal

pub corners-requires-clause-piece : goal.corners-requires-clause-piece
corners-requires-clause-piece c = (c.requires.told c.piece-item.result (mem_at c.args.set.now c.loop-piece.piece-index c.piece-item.result c.loop-piece-test.true c.piece-item.is)).0

pub corners-requires-clause-inner : goal.corners-requires-clause-inner
corners-requires-clause-inner c = (c.requires.told c.piece-item.result (mem_at c.args.set.now c.loop-piece.piece-index c.piece-item.result c.loop-piece-test.true c.piece-item.is)).1

pub returns-clause-value : goal.returns-clause-value
returns-clause-value c = λ d ok told.
    c.loop-piece.invariant.value ∙ (ap (sum_by (corners_told c.args.regions.now)) (take_all c.loop-piece.piece-index c.args.set.now (omega (arith, c.loop-piece-test.false)))
    ∙ all_added d c.args.regions.now told c.args.set.now c.requires.set)
