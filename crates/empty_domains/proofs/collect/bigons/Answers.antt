use Rattle.std.proofs.Common.{get_or}
use Rattle.region_table.proofs.EdgeWalk.{mem_of_place}
use Rattle.empty_domains.proofs.collect.bigons.Goals as goal

pub bounds-other-piece : goal.bounds-other-piece
bounds-other-piece c = c.requires (get_or c.args.found.now c.loop-piece.piece-index 0) (mem_of_place c.args.found.now c.loop-piece.piece-index 0 c.loop-piece-test.true)
