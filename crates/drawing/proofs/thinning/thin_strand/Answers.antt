use Rattle.std.proofs.Common.{◌<◌, arith, length}
use Rattle.drawing.proofs.ThinTables.{item_before, item_known, still_there, thinned_kept, thinned_passed}
use Rattle.drawing.proofs.thinning.thin_strand.Goals as goal
use Rattle.drawing.proofs.thinning.thin_strand.Goals.{then-not-gone-number, else-not-gone-number}

pub index-exit-requires : goal.index-exit-requires
index-exit-requires c =
    let l : c.loop-at.at < length c.args.exits.now.items = omega (arith, c.loop-at-test.true, c.len-at-end.ensures, c.args.exits.now.ok.0) in
    omega (arith, still_there c.args.exits.now.items c.loop-at.exits.items c.loop-at.at c.loop-at.invariant.left l, c.loop-at.exits.ok.0)

pub bounds-offsets-number : goal.bounds-offsets-number
bounds-offsets-number c =
    let l : c.loop-at.at < length c.args.exits.now.items = omega (arith, c.loop-at-test.true, c.len-at-end.ensures, c.args.exits.now.ok.0) in
    let before = item_before c.args.exits.now.items c.loop-at.exits.items c.loop-at.at _ c.loop-at.invariant.left l c.index-exit.ensures in
    let k = item_known c.args.offsets.now c.args.gone.now c.args.places.now c.args.exits.now.items _ _ c.requires l before in
    omega (arith, k.side, c.number.ensures.value)

pub bounds-gone-number : goal.bounds-gone-number
bounds-gone-number c =
    let l : c.loop-at.at < length c.args.exits.now.items = omega (arith, c.loop-at-test.true, c.len-at-end.ensures, c.args.exits.now.ok.0) in
    let before = item_before c.args.exits.now.items c.loop-at.exits.items c.loop-at.at _ c.loop-at.invariant.left l c.index-exit.ensures in
    let k = item_known c.args.offsets.now c.args.gone.now c.args.places.now c.args.exits.now.items _ _ c.requires l before in
    rw c.number.ensures.value k.gone_there

pub bounds-places-number : goal.bounds-places-number
bounds-places-number c =
    let l : c.loop-at.at < length c.args.exits.now.items = omega (arith, c.loop-at-test.true, c.len-at-end.ensures, c.args.exits.now.ok.0) in
    let before = item_before c.args.exits.now.items c.loop-at.exits.items c.loop-at.at _ c.loop-at.invariant.left l c.index-exit.ensures in
    let k = item_known c.args.offsets.now c.args.gone.now c.args.places.now c.args.exits.now.items _ _ c.requires l before in
    rw c.number.ensures.value k.place_there

pub index_mut-requires : goal.index_mut-requires
index_mut-requires c =
    let l : c.loop-at.at < length c.args.exits.now.items = omega (arith, c.loop-at-test.true, c.len-at-end.ensures, c.args.exits.now.ok.0) in
    omega (arith, still_there c.args.exits.now.items c.loop-at.exits.items c.loop-at.at c.loop-at.invariant.left l, c.loop-at.exits.ok.0, c.loop-at.invariant.within)

pub loop-at-preserved : goal.loop-at-preserved
loop-at-preserved c =
    let l : c.loop-at.at < length c.args.exits.now.items = omega (arith, c.loop-at-test.true, c.len-at-end.ensures, c.args.exits.now.ok.0) in
    let inv = c.loop-at.invariant in
    let side = c.number.ensures.value in
    elim c.if-not-gone-number.branch [
      | then-not-gone-number w ↦
          let stay = rw side at w.if-not-gone-number.true in
          let h = thinned_kept c.args.offsets.now c.args.gone.now c.args.places.now c.args.exits.now.items _ _ _ _ inv.within l c.index-exit.ensures inv.kept inv.left stay in
          rw (w.exits-is, w.kept-is, side) (record { within = omega (arith, inv.within); kept = h.0; left = h.1 })
      | else-not-gone-number w ↦
          let out = rw side at w.if-not-gone-number.false in
          let h = thinned_passed c.args.offsets.now c.args.gone.now c.args.places.now c.args.exits.now.items _ _ _ _ l c.index-exit.ensures inv.kept inv.left out in
          rw (w.exits-is, w.kept-is) (record { within = omega (arith, inv.within); kept = h.0; left = h.1 })
    ]
