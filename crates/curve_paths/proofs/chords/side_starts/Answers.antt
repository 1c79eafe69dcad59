use Rattle.std.proofs.Common.{refl, arith}
use Rattle.curve_paths.proofs.Starts.{all_starts, in_table, named, starts_more}
use Rattle.curve_paths.proofs.chords.side_starts.Goals as goal

pub index_mut-requires : goal.index_mut-requires
index_mut-requires c = omega (arith, in_table _ _ c.requires _ _ _ c.loop-side.invariant _ c.loop-side-test.true c.side-item.is _ c.number-label.ensures.value)

pub bounds-counts-label : goal.bounds-counts-label
bounds-counts-label c = omega (arith, named _ _ c.requires _ _ _ c.loop-side.invariant _ c.loop-side-test.true c.side-item.is, c.number-label.ensures.value)

pub loop-side-preserved : goal.loop-side-preserved
loop-side-preserved c =
    starts_more _ _ c.requires _ _ _ c.loop-side.invariant _ c.loop-side-test.true c.side-item.is _ c.number-label.result _ (omega (arith, c.number-label.ensures.value)) refl c.number-label.ensures.value

pub returns : goal.returns
returns c = all_starts _ _ c.requires _ _ _ c.loop-side.invariant c.loop-side-test.false
