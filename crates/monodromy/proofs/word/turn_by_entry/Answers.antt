use Rattle.std.proofs.lemmas.Option.{IfSome_then}
use Rattle.monodromy.proofs.Curves.{some_curve}
use Rattle.monodromy.proofs.word.turn_by_entry.Goals as goal

pub by_power-requires-clause-curve : goal.by_power-requires-clause-curve
by_power-requires-clause-curve c =
    IfSome_then c.curve_of.result c.curve_of.ensures.there (λ curve m. some_curve c.args.drawing.now.drawing.polygon c.args.curves.now c.requires.curves curve.now m)
