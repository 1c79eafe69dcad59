use Rattle.std.proofs.Common.{◌<◌, length, ap, arith, [], get_or}
use Rattle.std.proofs.lemmas.List.{get_or_read}
use Rattle.page_surface.proofs.Sides.{few_of_polygon}
use Rattle.page_surface.proofs.labelled.Labelled.sides_of.Goals as goal

pub overflow_cast-result : goal.overflow_cast-result
overflow_cast-result c =
    let within : c.args.polygon < length c.as_slice.result.now = omega (arith, ap length c.as_slice.ensures, ap length c.self.view_is) in
    omega (
      arith,
      c.len.ensures,
      ap length (get_or_read c.as_slice.result.now c.args.polygon c.index-as_slice-polygon.result within c.index-as_slice-polygon.is []),
      ap (λ ps. length (get_or ps c.args.polygon [])) c.as_slice.ensures,
      few_of_polygon c.self.inside.polygons c.args.polygon,
      c.self.invariant.few,
    )
