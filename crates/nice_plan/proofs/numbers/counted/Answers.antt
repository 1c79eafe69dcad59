use Rattle.std.proofs.Common.{◌+◌, take, sym, ◌∙◌, ap, subst}
use Rattle.drawing.proofs.Lists.{mem_at}
use Rattle.nice_plan.specs.Counted.{IsCounted, both_marked}
use Rattle.nice_plan.proofs.Counting.{counted_at, written_back}
use Rattle.nice_plan.proofs.numbers.counted.Goals as goal

pub count_segment-requires-clause-there : goal.count_segment-requires-clause-there
count_segment-requires-clause-there c = c.requires.there _ (mem_at c.args.segments.now _ _ c.loop-segment-test.true c.segment-item.is)

pub loop-segment-preserved : goal.loop-segment-preserved
loop-segment-preserved c =
    let d = c.args.drawing.now.drawing in
    let s = c.segment-item.result in
    let on = c.requires.there s (mem_at c.args.segments.now _ _ c.loop-segment-test.true c.segment-item.is) in
    let back = written_back c.loop-segment.rows.len c.count_segment.new.rows c.loop-segment.rows.items (c.count_segment.auto.rows ∙ c.deref_mut.ensures.len) in
    let new = back ∙ (c.count_segment.ensures ∙ ap (λ rows. both_marked d rows s) c.deref_mut.ensures.value) in
    subst (IsCounted d (take (c.loop-segment.segment-index + 1) c.args.segments.now)) (sym new)
    (counted_at d c.points.ensures.valid.polygon c.args.segments.now c.loop-segment.segment-index s _ c.loop-segment.rows.items c.loop-segment-test.true c.segment-item.is on c.loop-segment.invariant)
