use Rattle.std.proofs.Common.{arith}
use Rattle.std.proofs.lemmas.List.{get_or_read}
use Rattle.handle_slide.proofs.SideTables.{places_all, places_more}
use Rattle.handle_slide.proofs.sides.places_in.Goals as goal

pub loop-place-preserved : goal.loop-place-preserved
loop-place-preserved c =
    rw (c.number.ensures.value, c.new-in-loop-place.ensures) (places_more c.args.order.now c.requires.in_range c.requires.once c.loop-place.place c.index-order-place.result c.loop-place.places.items
    (omega (arith, c.loop-place-test.true)) (get_or_read c.args.order.now c.loop-place.place c.index-order-place.result (omega (arith, c.loop-place-test.true)) c.index-order-place.is 0) c.loop-place.invariant)

pub returns : goal.returns
returns c = places_all c.args.order.now c.requires.in_range c.requires.once c.loop-place.place c.loop-place.places.items (omega (arith, c.loop-place-test.false)) c.loop-place.invariant
