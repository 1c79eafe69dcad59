use Rattle.std.proofs.Common.{[], ap, arith, length, refl}
use Rattle.std.proofs.lemmas.Option.{slice_get_read}
use Rattle.page_surface.proofs.Sides.{length-of_polygon, length-side_labels_of, sides_read}
use Rattle.page_surface.proofs.labelled.Labelled.label_at.Goals as goal

pub bounds-sides-polygon : goal.bounds-sides-polygon
bounds-sides-polygon c = omega (arith, ap length c.sides.ensures.value, length-side_labels_of [] c.args.self.now, c.requires.polygon)

pub bounds-as_slice-side : goal.bounds-as_slice-side
bounds-as_slice-side c =
    let sides = sides_read c.args.self.now c.sides.result.now c.args.polygon _ _ c.requires.polygon c.sides.ensures.value c.index-sides-polygon.is c.as_slice.ensures in
    omega (arith, ap length sides, length-of_polygon [] c.args.self.now c.args.polygon, c.requires.side)

pub returns : goal.returns
returns c =
    let sides = sides_read c.args.self.now c.sides.result.now c.args.polygon _ _ c.requires.polygon c.sides.ensures.value c.index-sides-polygon.is c.as_slice.ensures in
    rw (← sides)
    (slice_get_read c.as_slice.result.now (length c.as_slice.result.now) c.args.side _ refl
    (omega (arith, ap length sides, length-of_polygon [] c.args.self.now c.args.polygon, c.requires.side)) c.index-as_slice-side.is)
