use Rattle.std.proofs.Common.{refl}
use Rattle.drawing.proofs.Filled.{offsets_more}
use Rattle.drawing.proofs.counts.offsets.Goals as goal

pub loop-count-preserved : goal.loop-count-preserved
loop-count-preserved c =
    let h = offsets_more c.args.counts.now _ _ c.loop-count.count-index _ _ c.loop-count-test.true c.loop-count.invariant.here c.loop-count.invariant.so_far refl c.in_ok-push-2.ensures.items in
    record { here = h.0; so_far = h.1 }
