use Rattle.std.proofs.Common.{arith}
use Rattle.tight_curves.proofs.PlacesTold.{placed_more}
use Rattle.tight_curves.proofs.TurnSearch.{is_point}
use Rattle.tight_curves.proofs.part.placed_anew.Goals as goal

pub place_in-place-requires-clause-side : goal.place_in-place-requires-clause-side
place_in-place-requires-clause-side c =
    (is_point c.args.polygon.now c.requires.valid c.args.exits.now c.requires.curve c.args.part.now c.requires.part c.loop-exit.exit-index c.exit-item.result (omega (arith, c.loop-exit-test.true)) c.exit-item.is).0

pub place_in-place-requires-clause-place : goal.place_in-place-requires-clause-place
place_in-place-requires-clause-place c =
    (is_point c.args.polygon.now c.requires.valid c.args.exits.now c.requires.curve c.args.part.now c.requires.part c.loop-exit.exit-index c.exit-item.result (omega (arith, c.loop-exit-test.true)) c.exit-item.is).1

pub loop-exit-preserved : goal.loop-exit-preserved
loop-exit-preserved c =
    placed_more c.args.polygon.now c.args.exits.now c.args.part.now c.loop-exit.exit-index c.exit-item.result c.place_in-place.result c.loop-exit.placed.items c.push.new.self.items
    (omega (arith, c.loop-exit-test.true)) c.exit-item.is c.loop-exit.invariant c.place_in-place.ensures c.in_ok-push.ensures.items
