use Rattle.std.proofs.Common.{◌<◌, length, arith}
use Rattle.path_words.proofs.Readings.{exits_on_sides}
use Rattle.tight_curves.proofs.TurnSearch.{found, is_back, is_point, none_left, one_more_fails, test_is}
use Rattle.tight_curves.proofs.turns.some_turn.Goals as goal

pub is_turn-requires-clause-in_range : goal.is_turn-requires-clause-in_range
is_turn-requires-clause-in_range c = exits_on_sides c.args.polygon.now c.args.exits.now c.requires.curve

pub is_turn-requires-clause-side : goal.is_turn-requires-clause-side
is_turn-requires-clause-side c =
    (is_point c.args.polygon.now c.requires.valid c.args.exits.now c.requires.curve c.args.part.now c.requires.part c.loop-at.at c.index-part-at.result (omega (arith, c.loop-at-test.true)) c.index-part-at.is).0

pub is_turn-requires-clause-out : goal.is_turn-requires-clause-out
is_turn-requires-clause-out c =
    (is_point c.args.polygon.now c.requires.valid c.args.exits.now c.requires.curve c.args.part.now c.requires.part c.loop-at.at c.index-part-at.result (omega (arith, c.loop-at-test.true)) c.index-part-at.is).1

pub is_turn-requires-clause-back : goal.is_turn-requires-clause-back
is_turn-requires-clause-back c =
    is_back c.args.polygon.now c.requires.valid c.args.exits.now c.requires.curve c.args.part.now c.requires.part c.index-part-at.result c.next.result c.index-part-next.result c.next.ensures.within
    c.index-part-next.is

pub returns-then-is_turn-clause-found : goal.returns-then-is_turn-clause-found
returns-then-is_turn-clause-found c =
    let within : c.loop-at.at < length c.args.part.now = omega (arith, c.loop-at-test.true) in
    found c.args.polygon.now c.requires.valid c.args.exits.now c.requires.curve c.args.part.now c.requires.part c.loop-at.at c.is_turn.result within
    (test_is c.args.polygon.now c.requires.valid c.args.exits.now c.requires.curve c.args.part.now c.requires.part c.loop-at.at c.index-part-at.result c.next.result c.index-part-next.result c.is_turn.result within
    c.index-part-at.is c.next.ensures.value c.next.ensures.within c.index-part-next.is c.is_turn.ensures) c.if-is_turn.true

pub loop-at-preserved : goal.loop-at-preserved
loop-at-preserved c =
    let within : c.loop-at.at < length c.args.part.now = omega (arith, c.loop-at-test.true) in
    one_more_fails c.args.polygon.now c.requires.valid c.args.exits.now c.requires.curve c.args.part.now c.requires.part c.loop-at.at c.is_turn.result
    (test_is c.args.polygon.now c.requires.valid c.args.exits.now c.requires.curve c.args.part.now c.requires.part c.loop-at.at c.index-part-at.result c.next.result c.index-part-next.result c.is_turn.result within
    c.index-part-at.is c.next.ensures.value c.next.ensures.within c.index-part-next.is c.is_turn.ensures) c.if-is_turn.false c.loop-at.invariant

pub returns-clause-none : goal.returns-clause-none
returns-clause-none c =
    none_left c.args.polygon.now c.requires.valid c.args.exits.now c.requires.curve c.args.part.now c.requires.part c.loop-at.at (omega (arith, c.loop-at-test.false)) c.loop-at.invariant
