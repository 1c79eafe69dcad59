use Rattle.std.proofs.Common.{◌+◌, ap, arith, get_or}
use Rattle.drawing.specs.PushTables.{raised_side}
use Rattle.drawing.proofs.PushTables.{moved_left, moved_more}
use Rattle.drawing.proofs.push.raise_sides.Goals as goal

pub overflow_add-offsets : goal.overflow_add-offsets
overflow_add-offsets c =
    omega (arith, c.step.ensures.few, c.requires c.loop-side.side (omega (arith, c.loop-side-test.true)), c.loop-side.invariant.left c.loop-side.side (omega arith))

pub loop-side-preserved : goal.loop-side-preserved
loop-side-preserved c =
    let g = raised_side c.args.near.now.side c.args.far.now.side in
    let inv = c.loop-side.invariant in
    record {
      so_far = moved_more g c.args.offsets.now c.loop-side.offsets c.loop-side.side inv.so_far inv.left _ (omega (arith, c.loop-side-test.true, c.loop-side.auto.offsets))
          (ap (λ s. get_or c.loop-side.offsets c.loop-side.side 0 + s) c.step.ensures.value);
      left = moved_left g c.args.offsets.now c.loop-side.offsets c.loop-side.side inv.so_far inv.left _;
    }

pub returns : goal.returns
returns c = λ k l. c.loop-side.invariant.so_far k (omega (arith, l, c.loop-side-test.false))
