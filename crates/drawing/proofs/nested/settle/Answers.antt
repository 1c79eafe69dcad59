use Rattle.std.proofs.Common.{arith}
use Rattle.drawing.proofs.nested.settle.Goals as goal

pub loop-count-smaller-in-Some : goal.loop-count-smaller-in-Some
loop-count-smaller-in-Some c =
    let taken = c.in-Some.ensures.taken c.loop-count.turns c.loop-count.invariant.taken in
    omega (arith, taken.fewer, c.put_beside-count.ensures.few, c.loop-count-test.true)

pub loop-count-preserved-in-Some : goal.loop-count-preserved-in-Some
loop-count-preserved-in-Some c = record {
  linked = c.take_at.ensures.linked;
  taken = c.in-Some.ensures.taken c.loop-count.turns c.loop-count.invariant.taken;
  more = omega (arith, c.loop-count.invariant.more);
  fits = c.put_beside-count.ensures.fits;
}
