use Rattle.std.proofs.Common.{subst}
use Rattle.obd_base.specs.Lists.{Mem}
use Rattle.drawing.proofs.Lists.{mem_at}
use Rattle.obd_lines.proofs.regions.put_inner.Goals as goal

-- a piece that is listed
listed : (c : goal.After-put_piece-arg-in-loop-piece-1) → Mem c.piece-item.result c.args.regions.now.inner
listed c = subst (λ xs. Mem c.piece-item.result xs) c.inner-piece-items.ensures (mem_at c.inner-piece-items.result.now c.loop-piece.piece-index c.piece-item.result c.loop-piece-test.true c.piece-item.is)

pub put_piece-requires-clause-piece : goal.put_piece-requires-clause-piece
put_piece-requires-clause-piece c = (c.requires.table.listed_inner c.piece-item.result (listed c)).0

pub put_piece-requires-clause-inner : goal.put_piece-requires-clause-inner
put_piece-requires-clause-inner c = (c.requires.table.listed_inner c.piece-item.result (listed c)).1
