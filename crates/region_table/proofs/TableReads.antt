-- The sides, points and chords that a table tells are those of a drawing that has it.
use Rattle.std.proofs.Common.{◌≡◌, ℕ, suc, ◌<◌, length, ap, arith}
use Rattle.page_surface.specs.Drawing.{Drawing, exit, points_on, spot, strand_exits}
use Rattle.page_surface.specs.Polygon.{arc_count, sides}
use Rattle.region_table.specs.Reads.{told_chords, told_points, told_spot}
use Rattle.region_table.specs.Table.{IsTableOf, Table}
use Rattle.region_table.proofs.TablePlaces.{chords_told, points_told, start_told}

module _ (d : Drawing) (t : Table) (told : IsTableOf d t) where
  -- the sides are those of the drawing,
  pub sides_are : sides t.polygon ≡ sides d.polygon
  sides_are = ap sides told.polygon

  pub arcs_are : arc_count t.polygon ≡ arc_count d.polygon
  arcs_are = ap arc_count told.polygon

  -- and so many points on them
  pub points_are : (side : ℕ) → side < sides t.polygon → told_points t side ≡ points_on d side
  points_are side l = omega (arith, points_told d t told side (omega (arith, l, sides_are)))

  -- and the numbers of their segments
  pub spot_told : (side segment : ℕ) → side < sides t.polygon → told_spot t side segment ≡ spot d (exit side segment)
  spot_told side segment l = omega (arith, start_told d t told side (omega (arith, l, sides_are)))

  -- a strand has so many chords
  pub chords_are : (strand : ℕ) → strand < arc_count t.polygon → told_chords t strand ≡ suc (length (strand_exits d strand))
  chords_are strand l = chords_told d t told strand (omega (arith, l, arcs_are))
