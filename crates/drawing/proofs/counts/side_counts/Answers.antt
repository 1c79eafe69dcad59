use Rattle.std.proofs.Common.{◌∙◌, arith}
use Rattle.drawing.proofs.Filled.{counted_all, entry_counted, entry_fits, exit_fits, side_there}
use Rattle.drawing.proofs.counts.side_counts.Goals as goal

pub overflow_add-index_mut : goal.overflow_add-index_mut
overflow_add-index_mut c =
    let l = side_there c.args.polygon.now c.args.exits.now _ _ c.requires.on_sides c.loop-exit-test.true c.exit-item.is in
    omega (arith, exit_fits c.args.polygon.now c.args.exits.now _ _ _ c.loop-exit-test.true c.exit-item.is c.loop-exit.invariant _ _ c.number.ensures.value l c.index_mut.ensures.value c.requires.few)

pub overflow_add-index_mut-in-loop-exit : goal.overflow_add-index_mut-in-loop-exit
overflow_add-index_mut-in-loop-exit c =
    let l = side_there c.args.polygon.now c.args.exits.now _ _ c.requires.on_sides c.loop-exit-test.true c.exit-item.is in
    omega (
      arith,
      entry_fits c.args.polygon.now c.args.exits.now _ _ _ c.loop-exit-test.true c.exit-item.is c.loop-exit.invariant _ _ c.number.ensures.value l c.index_mut.ensures.value
          _ _ (c.number-in-loop-exit.ensures.value ∙ c.pair.ensures) (c.sides.ensures.valid.pairs.in_range _ l) c.index_mut-in-loop-exit.ensures.value c.requires.few,
    )

pub loop-exit-preserved : goal.loop-exit-preserved
loop-exit-preserved c =
    let l = side_there c.args.polygon.now c.args.exits.now _ _ c.requires.on_sides c.loop-exit-test.true c.exit-item.is in
    entry_counted c.args.polygon.now c.args.exits.now _ _ _ c.loop-exit-test.true c.exit-item.is c.loop-exit.invariant _ _ c.number.ensures.value l c.index_mut.ensures.value
    _ _ (c.number-in-loop-exit.ensures.value ∙ c.pair.ensures) (c.sides.ensures.valid.pairs.in_range _ l) c.index_mut-in-loop-exit.ensures.value

pub returns : goal.returns
returns c = counted_all c.args.polygon.now c.args.exits.now _ _ c.loop-exit-test.false c.loop-exit.invariant
