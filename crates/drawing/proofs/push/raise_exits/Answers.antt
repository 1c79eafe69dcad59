use Rattle.std.proofs.Common.{◌<◌, ◌^◌, ◌∙◌, subst}
use Rattle.obd_base.specs.declared.points.Exit.{Exit}
use Rattle.drawing.specs.PushTables.{raised}
use Rattle.drawing.proofs.ThinTables.{row_mem, row_unread, row_written}
use Rattle.drawing.proofs.push.raise_exits.Goals as goal

pub raised-requires-clause-side : goal.raised-requires-clause-side
raised-requires-clause-side c =
    let same = row_unread (raised c.args.near.now c.args.far.now) c.args.exits.now c.loop-exit.exits c.loop-exit.exit-index c.exit-item.result c.loop-exit.invariant c.loop-exit-test.true in
    let m = row_mem c.args.exits.now c.loop-exit.exits c.loop-exit.exit-index c.exit-item.result c.loop-exit-test.true same c.exit-item.is in
    subst (λ (e : Exit). e.side < 16) c.exit-item.is (c.requires.sides c.exit-item.result m)

pub raised-requires-clause-place : goal.raised-requires-clause-place
raised-requires-clause-place c =
    let same = row_unread (raised c.args.near.now c.args.far.now) c.args.exits.now c.loop-exit.exits c.loop-exit.exit-index c.exit-item.result c.loop-exit.invariant c.loop-exit-test.true in
    let m = row_mem c.args.exits.now c.loop-exit.exits c.loop-exit.exit-index c.exit-item.result c.loop-exit-test.true same c.exit-item.is in
    subst (λ (e : Exit). e.place < 2 ^ 30) c.exit-item.is (c.requires.places c.exit-item.result m)

pub loop-exit-preserved : goal.loop-exit-preserved
loop-exit-preserved c =
    let f = raised c.args.near.now c.args.far.now in
    let same = row_unread f c.args.exits.now c.loop-exit.exits c.loop-exit.exit-index c.exit-item.result c.loop-exit.invariant c.loop-exit-test.true in
    let m = row_mem c.args.exits.now c.loop-exit.exits c.loop-exit.exit-index c.exit-item.result c.loop-exit-test.true same c.exit-item.is in
    let side = subst (λ (e : Exit). e.side < 16) c.exit-item.is (c.requires.sides c.exit-item.result m) in
    let place = subst (λ (e : Exit). e.place < 2 ^ 30) c.exit-item.is (c.requires.places c.exit-item.result m) in
    row_written f c.args.exits.now c.loop-exit.exits c.loop-exit.exit-index c.exit-item.result _ c.loop-exit.invariant c.loop-exit-test.true
    (c.raised.ensures ∙ c.limits-limits.ensures.told _ side place)
