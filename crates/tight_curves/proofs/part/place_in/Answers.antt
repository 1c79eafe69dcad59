use Rattle.std.proofs.Common.{◌∙◌, ap, arith}
use Rattle.std.proofs.lemmas.List.{take_all}
use Rattle.path_words.proofs.Readings.{exits_on_sides}
use Rattle.tight_curves.specs.Turns.{place_by_exits}
use Rattle.tight_curves.proofs.PlacesTold.{place_is}
use Rattle.tight_curves.proofs.part.place_in.Goals as goal

pub points_on-requires-clause-in_range : goal.points_on-requires-clause-in_range
points_on-requires-clause-in_range c = exits_on_sides c.args.polygon.now c.args.exits.now c.requires.curve

pub returns : goal.returns
returns c =
    c.loop-exit.invariant.0
    ∙ (ap (λ s. place_by_exits c.args.polygon.now c.args.exits.now s c.args.at) (take_all c.loop-exit.exit-index c.args.part.now (omega (arith, c.loop-exit-test.false)))
    ∙ place_is c.args.polygon.now c.requires.valid.pairs c.args.exits.now c.requires.curve c.args.part.now c.requires.part c.args.at (c.requires.side, c.requires.place))
