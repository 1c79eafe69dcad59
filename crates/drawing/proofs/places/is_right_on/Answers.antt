use Rattle.std.proofs.Common.{◌<◌, sym, arith}
use Rattle.std.proofs.lemmas.Bool.{eq-eqb, ne_eqb}
use Rattle.page_surface.specs.Drawing.{points_on}
use Rattle.drawing.proofs.Hits.{all_below_more, hit_read, met_once, not_all_below}
use Rattle.drawing.proofs.places.is_right_on.Goals as goal

pub returns-then-hits-spot-ne1 : goal.returns-then-hits-spot-ne1
returns-then-hits-spot-ne1 c =
    let d = c.args.layout.now.drawing in
    let l : c.loop-place.place < points_on d c.args.side = omega (arith, c.loop-place-test.true, c.points_on-place-end.ensures.value) in
    let r = hit_read d c.args.hits.now c.args.side c.loop-place.place _ c.requires.hits c.requires.side l c.spot.ensures.value in
    sym (not_all_below (met_once d c.args.side) (points_on d c.args.side) c.loop-place.place l (ne_eqb _ _ (λ q. c.if-hits-spot-ne1.true (omega (arith, r, q)))))

pub loop-place-preserved : goal.loop-place-preserved
loop-place-preserved c =
    let d = c.args.layout.now.drawing in
    let l : c.loop-place.place < points_on d c.args.side = omega (arith, c.loop-place-test.true, c.points_on-place-end.ensures.value) in
    let r = hit_read d c.args.hits.now c.args.side c.loop-place.place _ c.requires.hits c.requires.side l c.spot.ensures.value in
    all_below_more (met_once d c.args.side) c.loop-place.place c.loop-place.invariant (eq-eqb _ _ (omega (arith, r, c.if-hits-spot-ne1.false)))
