use Rattle.std.proofs.Common.{arith}
use Rattle.drawing.proofs.KeptTables.{exits_fit}
use Rattle.drawing.proofs.drawing.Drawing.chords.Goals as goal

pub overflow_cast-result : goal.overflow_cast-result
overflow_cast-result c = let k = exits_fit _ _ _ _ _ _ _ _ _ c.self.invariant c.exits.ensures in omega (arith, k)

pub overflow_add-result : goal.overflow_add-result
overflow_add-result c = let k = exits_fit _ _ _ _ _ _ _ _ _ c.self.invariant c.exits.ensures in omega (arith, k)
