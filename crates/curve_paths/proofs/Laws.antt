-- The rules of a path accept exactly the curves, on a page of one polygon.
use Rattle.std.specs.Prelude.{◌≡◌, ◌↔◌, ◌<◌, true, List, length}
use Rattle.std.specs.Str.{bytes_eq}
use Rattle.std.proofs.Common.{refl, subst, ap, arith, eqb, ltb-false}
use Rattle.std.proofs.lemmas.List.Sums.{count_by-le-length}
use Rattle.obd_base.specs.Lists.{Mem}
use Rattle.obd_base.proofs.lists.Members.{mem_to_map}
use Rattle.std.proofs.lemmas.List.{length-map}
use Rattle.obd_base.specs.declared.points.Exit.{Exit}
use Rattle.page_surface.specs.Joining.{joined, page_polygon, polygon_of}
use Rattle.page_surface.specs.Labels.{Label, label_number, labels_of}
use Rattle.page_surface.specs.Page.{IsPage}
use Rattle.page_surface.specs.Polygon.{Polygon}
use Rattle.page_surface.proofs.EmbeddedTest.{all_in}
use Rattle.page_surface.proofs.LabelNumbers.{first_below}
use Rattle.curve_paths.specs.declared.crossing.Crossing.{Crossing}
use Rattle.curve_paths.specs.declared.path.Cross.{Cross}
use Rattle.curve_paths.specs.Curves.{IsCurve}
use Rattle.curve_paths.specs.PathRules.{IsPath}
use Rattle.curve_paths.specs.PathTables.{HasCrossings, HaveOccurrences}
use Rattle.curve_paths.specs.Paths.{crossing, crossings, is_known, row}
use Rattle.curve_paths.specs.PlaceTables.{ArePlaced}
use Rattle.curve_paths.specs.Through.{exits_through}
use Rattle.curve_paths.proofs.Accepted.{is_path}
use Rattle.curve_paths.proofs.Carried.{outs}
use Rattle.curve_paths.proofs.Kept.{few as few_crossings, known as labels_known, no_seam, outs_made, right, row_polygon, some_label, whole_sides}
use Rattle.curve_paths.proofs.LabelPlaces.{place_below}
use Rattle.curve_paths.proofs.Rules.{crossings_named}
use Rattle.curve_paths.proofs.ThroughCurve.{through_curve}

-- the exits of a path that keeps the rules are a curve
pub path_is_curve : (page : List (List Label)) → IsPage page → (path : List Cross) → HaveOccurrences path → IsPath page path → IsCurve (page_polygon page) (exits_through page path)
path_is_curve page valid path occurrences kept = through_curve page path valid kept occurrences

-- each crossing of a path that keeps the rules has a label of the page, at a place below 32
pub crossing_few : (page : List (List Label)) (path : List Cross) → IsPath page path → (c : Cross) → Mem c path → (is_known page c ≡ true) × (c.place < 32)
crossing_few page path kept c m =
    let known = all_in (is_known page) c path (labels_known page path kept) m in
    let label : label_number (labels_of page) c.label < length (labels_of page) = first_below (bytes_eq c.label) (labels_of page) known in
    let below = place_below (crossings page path) (label_number (labels_of page) c.label) (right page path kept (label_number (labels_of page) c.label) label) (crossing page c)
    (mem_to_map (crossing page) c path m) refl in
    let most = count_by-le-length (λ (x : Crossing). eqb x.side.label (label_number (labels_of page) c.label)) (crossings page path) in
    let few = ltb-false 32 (length path) (few_crossings page path kept) in
    (known, omega (arith, below, most, few, length-map path (crossing page)))

module _ (page : List (List Label)) (valid : IsPage page) (one : length page ≡ 1) where
  -- a path of crossings whose exits are a curve keeps the rules
  pub curve_is_path : (path : List Cross) → HasCrossings page path → IsCurve (page_polygon page) (exits_through page path) → IsPath page path
  curve_is_path path has curve =
      let cs = crossings page path in
      let placed : ArePlaced page cs = record {
        few = omega (arith, length-map path (crossing page), has.most);
        named = crossings_named page path has.known has.occurrences;
        placed = has.places;
      } in
      let whole = whole_sides page (joined page) refl (no_seam page valid one) in
      let there : IsCurve (polygon_of (row page)) (outs page valid cs placed)
      = subst (λ (q : Polygon). IsCurve q (outs page valid cs placed)) (ap polygon_of whole)
      (subst (λ (es : List Exit). IsCurve (page_polygon page) es) (outs_made page valid cs placed (joined page) whole) curve) in
      is_path page valid path one has.least has.most has.known placed (row_polygon page valid (some_label page valid)) there

  -- so the rules accept exactly the paths whose exits are a curve on the joined polygon
  pub rules_are_curves : (path : List Cross) → HasCrossings page path → IsPath page path ↔ IsCurve (page_polygon page) (exits_through page path)
  rules_are_curves path has = (path_is_curve page valid path has.occurrences, curve_is_path path has)
