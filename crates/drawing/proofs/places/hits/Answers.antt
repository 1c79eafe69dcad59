use Rattle.std.proofs.Common.{◌∙◌, ◌<◌, ◌^◌, List, length, ap, arith}
use Rattle.std.specs.List.{flat_map}
use Rattle.obd_base.specs.declared.points.Exit.{Exit}
use Rattle.page_surface.specs.Drawing.{points_on, spot}
use Rattle.drawing.proofs.Hits.{entry_hit, entry_hit_fits, entry_place, exit_hit_fits, exit_side, hit_table, off_side}
use Rattle.drawing.proofs.places.hits.Goals as goal
use Rattle.drawing.proofs.places.hits.Goals.{then-exit-points_on, else-exit-points_on}

pub overflow_add-index_mut : goal.overflow_add-index_mut
overflow_add-index_mut c =
    let d = c.args.layout.now.drawing in
    let all = c.deref-exit-items.ensures.value ∙ (c.in_ok-exits.ensures ∙ ap (λ (xs : List (List Exit)). flat_map (λ s. s) xs) c.strands.ensures) in
    let ls = exit_side d _ _ _ c.polygon.ensures.written all c.loop-exit-test.true c.exit-item.is in
    let few : length c.deref-exit-items.result.now < 2 ^ 28 = let e = ap length all in omega (arith, e, c.polygon.ensures.written.few) in
    let lp : c.exit-item.result.place < points_on d c.exit-item.result.side = omega (arith, c.if-exit-points_on.true, c.points_on.ensures.value) in
    let fits = exit_hit_fits d _ _ _ _ c.loop-exit-test.true c.exit-item.is c.loop-exit.invariant lp _ _ c.spot.ensures.value (omega (arith, c.spot.ensures.inside)) c.index_mut.ensures.value few in
    omega (arith, fits)

pub spot-requires-then-exit-points_on-clause-place : goal.spot-requires-then-exit-points_on-clause-place
spot-requires-then-exit-points_on-clause-place c =
    let d = c.args.layout.now.drawing in
    let all = c.deref-exit-items.ensures.value ∙ (c.in_ok-exits.ensures ∙ ap (λ (xs : List (List Exit)). flat_map (λ s. s) xs) c.strands.ensures) in
    let ls = exit_side d _ _ _ c.polygon.ensures.written all c.loop-exit-test.true c.exit-item.is in
    let lp : c.exit-item.result.place < points_on d c.exit-item.result.side = omega (arith, c.if-exit-points_on.true, c.points_on.ensures.value) in
    (entry_place d _ _ c.polygon.ensures.written.polygon ls lp c.entry.ensures).1

pub overflow_add-index_mut-then-exit-points_on : goal.overflow_add-index_mut-then-exit-points_on
overflow_add-index_mut-then-exit-points_on c =
    let d = c.args.layout.now.drawing in
    let all = c.deref-exit-items.ensures.value ∙ (c.in_ok-exits.ensures ∙ ap (λ (xs : List (List Exit)). flat_map (λ s. s) xs) c.strands.ensures) in
    let ls = exit_side d _ _ _ c.polygon.ensures.written all c.loop-exit-test.true c.exit-item.is in
    let few : length c.deref-exit-items.result.now < 2 ^ 28 = let e = ap length all in omega (arith, e, c.polygon.ensures.written.few) in
    let lp : c.exit-item.result.place < points_on d c.exit-item.result.side = omega (arith, c.if-exit-points_on.true, c.points_on.ensures.value) in
    let fits = entry_hit_fits d _ _ _ _ c.loop-exit-test.true c.exit-item.is c.loop-exit.invariant lp _ _ c.spot.ensures.value (omega (arith, c.spot.ensures.inside)) c.index_mut.ensures.value
    _ _ (c.spot-then-exit-points_on.ensures.value ∙ ap (spot d) c.entry.ensures) (omega (arith, c.spot-then-exit-points_on.ensures.inside)) c.index_mut-then-exit-points_on.ensures.value few in
    omega (arith, fits)

pub loop-exit-preserved : goal.loop-exit-preserved
loop-exit-preserved c = elim c.if-exit-points_on.branch [
  | then-exit-points_on w ↦
      let d = c.args.layout.now.drawing in
      let lp : c.exit-item.result.place < points_on d c.exit-item.result.side = omega (arith, w.if-exit-points_on.true, c.points_on.ensures.value) in
      rw w.hits-is (entry_hit d _ _ _ _ c.loop-exit-test.true c.exit-item.is c.loop-exit.invariant lp _ _ w.spot.ensures.value (omega (arith, w.spot.ensures.inside)) w.index_mut.ensures.value
      _ _ (w.spot-then-exit-points_on.ensures.value ∙ ap (spot d) w.entry.ensures) (omega (arith, w.spot-then-exit-points_on.ensures.inside)) w.index_mut-then-exit-points_on.ensures.value)
  | else-exit-points_on w ↦
      let d = c.args.layout.now.drawing in
      rw w.hits-is (off_side d _ _ _ _ c.loop-exit-test.true c.exit-item.is c.loop-exit.invariant (omega (arith, w.if-exit-points_on.false, c.points_on.ensures.value)))
]

pub returns : goal.returns
returns c =
    let all = c.deref-exit-items.ensures.value ∙ (c.in_ok-exits.ensures ∙ ap (λ (xs : List (List Exit)). flat_map (λ s. s) xs) c.strands.ensures) in
    hit_table c.args.layout.now.drawing _ _ _ c.polygon.ensures.written.polygon all c.loop-exit-test.false c.loop-exit.invariant
