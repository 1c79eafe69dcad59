use Rattle.std.proofs.Common.{◌≡◌, ◌+◌, suc, [], ◌∷◌, ◌++◌, take, drop, sym, ◌∙◌, ap, subst, arith}
use Rattle.drawing.proofs.Lists.{mem_at}
use Rattle.nice_plan.specs.Counted.{IsCounted, both_marked}
use Rattle.nice_plan.specs.Raised.{raised, raised_from}
use Rattle.nice_plan.proofs.Counting.{counted_at, lift_place, lift_side, lift_value, written_back}
use Rattle.nice_plan.proofs.RaisedRows.{raised_is, raised_more}
use Rattle.nice_plan.proofs.fingers.with_sums.Goals as goal

pub lifts-requires-clause-side : goal.lifts-requires-clause-side
lifts-requires-clause-side c =
    lift_side c.args.drawing.now.drawing c.args.path.now c.in_ok-all.all.items c.deref.result.now c.deref.ensures.value c.in_ok-all.ensures
    c.segment-item.result (c.requires.there _ (mem_at c.args.path.now _ _ c.loop-segment-test.true c.segment-item.is))

pub lifts-requires-clause-place : goal.lifts-requires-clause-place
lifts-requires-clause-place c =
    lift_place c.args.drawing.now.drawing c.args.path.now c.in_ok-all.all.items c.deref.result.now c.deref.ensures.value c.in_ok-all.ensures
    c.segment-item.result (c.requires.there _ (mem_at c.args.path.now _ _ c.loop-segment-test.true c.segment-item.is))

pub lifts-requires-in-loop-segment-clause-side : goal.lifts-requires-in-loop-segment-clause-side
lifts-requires-in-loop-segment-clause-side c =
    lift_side c.args.drawing.now.drawing (take c.loop-segment.segment-index c.args.path.now) c.loop-segment.before.items c.deref-in-loop-segment.result.now c.deref-in-loop-segment.ensures.value
    c.loop-segment.invariant.counted c.segment-item.result (c.requires.there _ (mem_at c.args.path.now _ _ c.loop-segment-test.true c.segment-item.is))

pub lifts-requires-in-loop-segment-clause-place : goal.lifts-requires-in-loop-segment-clause-place
lifts-requires-in-loop-segment-clause-place c =
    lift_place c.args.drawing.now.drawing (take c.loop-segment.segment-index c.args.path.now) c.loop-segment.before.items c.deref-in-loop-segment.result.now c.deref-in-loop-segment.ensures.value
    c.loop-segment.invariant.counted c.segment-item.result (c.requires.there _ (mem_at c.args.path.now _ _ c.loop-segment-test.true c.segment-item.is))

pub count_segment-requires-clause-there : goal.count_segment-requires-clause-there
count_segment-requires-clause-there c = c.requires.there _ (mem_at c.args.path.now _ _ c.loop-segment-test.true c.segment-item.is)

pub loop-segment-preserved : goal.loop-segment-preserved
loop-segment-preserved c =
    let d = c.args.drawing.now.drawing in
    let xs = c.args.path.now in
    let at = c.loop-segment.segment-index in
    let s = c.segment-item.result in
    let rows = c.loop-segment.before.items in
    let done = c.loop-segment.raised.items in
    let on = c.requires.there s (mem_at xs _ _ c.loop-segment-test.true c.segment-item.is) in
    let all = c.lifts.ensures ∙ lift_value d xs c.in_ok-all.all.items c.deref.result.now c.deref.ensures.value c.in_ok-all.ensures s on in
    let before = c.lifts-in-loop-segment.ensures ∙ lift_value d (take at xs) rows c.deref-in-loop-segment.result.now c.deref-in-loop-segment.ensures.value c.loop-segment.invariant.counted s on in
    let pushed = c.in_ok-push.ensures.items ∙ ap (λ r. done ++ (r ∷ [])) (raised_is d xs (take at xs) s c.lifts.result c.lifts-in-loop-segment.result all before) in
    let more = raised_more d xs done at s _ c.loop-segment-test.true c.segment-item.is c.loop-segment.invariant.raised in
    let one : suc at ≡ at + 1 = omega arith in
    let back = written_back c.loop-segment.before.len c.count_segment.new.rows rows (c.count_segment.auto.rows ∙ c.deref_mut.ensures.len) in
    let new = back ∙ (c.count_segment.ensures ∙ ap (λ rows. both_marked d rows s) c.deref_mut.ensures.value) in
    record {
      raised =
          ap (λ r. r ++ raised_from d xs (take (at + 1) xs) (drop (at + 1) xs)) pushed
          ∙ subst (λ n. (done ++ (raised d xs (take at xs) s ∷ [])) ++ raised_from d xs (take n xs) (drop n xs) ≡ raised_from d xs [] xs) one more;
      counted = subst (IsCounted d (take (at + 1) xs)) (sym new) (counted_at d c.points.ensures.valid.polygon xs at s _ rows c.loop-segment-test.true c.segment-item.is on c.loop-segment.invariant.counted);
    }
