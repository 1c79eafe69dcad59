use Rattle.monodromy.proofs.TurnsSoFar.{none_changes}
use Rattle.monodromy.proofs.turns.by_power.Goals as goal

pub returns-in_default-clause-turned : goal.returns-in_default-clause-turned
returns-in_default-clause-turned c = rw (c.in_default.is) (none_changes c.args.drawing.now.drawing c.args.power c.requires.few)
