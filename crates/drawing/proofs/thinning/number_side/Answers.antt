use Rattle.std.proofs.Common.{◌∙◌, ap, arith}
use Rattle.page_surface.specs.Drawing.{spot}
use Rattle.drawing.specs.ThinTables.{is_gone}
use Rattle.drawing.proofs.PlaceTables.{gone_uncounted, place_more, side_numbered, stays_counted}
use Rattle.drawing.proofs.thinning.number_side.Goals as goal
use Rattle.drawing.proofs.thinning.number_side.Goals.{then-not-gone-number, else-not-gone-number}

pub loop-old-preserved : goal.loop-old-preserved
loop-old-preserved c =
    let d = c.args.layout.now.drawing in
    let gone = is_gone c.args.gone.now in
    let inv = c.loop-old.invariant in
    let x = c.spot-number.ensures.value in
    let h = place_more d gone c.args.side _ _ _ _ x (omega (arith, c.spot-number.ensures.inside, c.requires.size, c.loop-old.auto.places)) inv.place inv.before inv.here in
    elim c.if-not-gone-number.branch [
      | then-not-gone-number w ↦ rw w.place-is (record {
        place = stays_counted d c.args.gone.now c.args.side _ _ _ x w.if-not-gone-number.true inv.place;
        most = omega (arith, inv.most);
        before = h.0;
        here = h.1;
      })
      | else-not-gone-number w ↦ rw w.place-is (record {
        place = gone_uncounted d c.args.gone.now c.args.side _ _ _ x w.if-not-gone-number.false inv.place;
        most = omega (arith, inv.most);
        before = h.0;
        here = h.1;
      })
    ]

pub returns : goal.returns
returns c =
    let d = c.args.layout.now.drawing in
    let inv = c.loop-old.invariant in
    let x = c.spot.ensures.value ∙ ap (spot d) c.end_of.ensures in
    side_numbered d (is_gone c.args.gone.now) c.args.side c.loop-old.old _ _ c.loop-old.places
    (omega (arith, c.loop-old-test.false, c.loop-old.auto.old-end, c.points_on-old-end.ensures.value)) x (omega (arith, c.spot.ensures.inside, c.requires.size, c.loop-old.auto.places))
    inv.place inv.before inv.here
