use Rattle.std.proofs.Common.{arith}
use Rattle.drawing.proofs.LinkTables.{between_unlinked}
use Rattle.drawing.proofs.links.unlink.Goals as goal

pub returns-then-high-len : goal.returns-then-high-len
returns-then-high-len c = λ gone linked here there next.
    c.join.ensures gone linked (between_unlinked gone _ c.args.one c.args.other _ _ _ _ linked here there next c.min-low.ensures c.max-high.ensures
    (omega (arith, c.if-low-len.true, c.len.ensures)) (omega (arith, c.if-high-len.true, c.len-then-low-len.ensures)) c.item.ensures c.item-then-high-len.ensures)
