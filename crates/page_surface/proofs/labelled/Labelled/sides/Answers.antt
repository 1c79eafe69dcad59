use Rattle.std.proofs.Common.{[], arith, refl}
use Rattle.page_surface.proofs.SideNumbers.{length-flat_sides, sides_in_range}
use Rattle.page_surface.proofs.Sides.{length-side_labels_of}
use Rattle.page_surface.proofs.labelled.Labelled.sides.Goals as goal

pub returns : goal.returns
returns c =
    let polygons = c.self.inside.polygons in
    rw (← c.self.view_is, c.as_slice.ensures, c.self.invariant.sides_are)
    (record {
      value = refl;
      in_range = sides_in_range polygons;
      few_polygons = omega (arith, length-side_labels_of [] polygons, c.self.invariant.few_polygons);
      few = omega (arith, length-flat_sides polygons, c.self.invariant.few);
    })
