-- The surface of an open book: a polygon of at most 16 sides, its curves, and words of at most 4,000 letters on it.
use Rattle.std.proofs.Common.{◌≡◌, ◌≤◌, List, [], ◌∷◌, length, map, subst, arith}
use Rattle.std.specs.Prelude.{All, IfSome}
use Rattle.std.specs.List.{position_or_len}
use Rattle.std.proofs.lemmas.List.{length-map}
use Rattle.obd_base.specs.declared.points.Exit.{Exit}
use Rattle.page_surface.specs.Drawing.{Drawing, all_exits}
use Rattle.page_surface.specs.Joining.{is_side, joined, other_side, page_polygon}
use Rattle.page_surface.specs.Polygon.{IsPolygon, sides}
use Rattle.arc_basis.specs.Basis.{joined_sides}
use Rattle.arc_basis.proofs.Whole.{page_whole}
use Rattle.curve_paths.specs.Curves.{IsCurve}
use Rattle.curve_paths.specs.Through.{exits_through}
use Rattle.curve_paths.specs.Twists.{exits_of}
use Rattle.curve_paths.specs.declared.named.NamedPath.{NamedPath}
use Rattle.curve_paths.proofs.Laws.{path_is_curve}
use Rattle.handle_slide.specs.Slide.{some_curve}
use Rattle.handle_slide.specs.declared.slid.Slid.{Slid}
use Rattle.handle_slide.proofs.SlidesLaw.{many_slides}
use Rattle.monodromy.proofs.WordsAfter.{few_points}
use Rattle.witness_check.specs.Belonging.{IsFirstDrawing}
use Rattle.witness_check.specs.OpenBook.{IsCurveOn, IsOpenBook, IsSurface, OpenBook, entries, joined_surface}
use Rattle.witness_check.proofs.Kept.{all_at, at_all, at_unmap}

module _ (book : OpenBook) (ok : IsOpenBook book) where
  -- the book's curves are curves on the joined page
  curves_on : All (λ curve. IfSome curve (IsCurve (page_polygon book.page))) (joined_surface book).curves
  curves_on = all_at (λ curve. IfSome curve (IsCurve (page_polygon book.page))) (joined_surface book).curves (λ i x at.
      let (curve, there, same) = at_unmap (λ (curve : NamedPath). some_curve (exits_through book.page curve.path)) book.curves i x at in
      let is = at_all (IsCurveOn book.page) book.curves i curve ok.curves there in
      subst (λ y. IfSome y (IsCurve (page_polygon book.page))) same (some (exits_through book.page curve.path) (path_is_curve book.page ok.page curve.path is.occurrences is.path)))
    where
      some : (es : List Exit) → IsCurve (page_polygon book.page) es → IfSome (some_curve es) (IsCurve (page_polygon book.page))
      some [] h = tt
      some (e ∷ es) h = h

  module _ (s : Slid) (is : IsSurface book s) where
    -- a polygon with at most 16 sides
    pub surface_polygon : IsPolygon s.polygon × (sides s.polygon ≤ 16)
    surface_polygon =
        let whole = page_whole book.page ok.page in
        let slid = many_slides book.slides 0 (joined_surface book) s whole.is_polygon curves_on is in
        (slid.0, omega (arith, slid.1, whole.most, page_sides))
      where
        page_sides : sides (page_polygon book.page) ≡ length (joined_sides (joined book.page))
        page_sides = length-map (joined_sides (joined book.page)) (λ x. position_or_len (is_side (other_side x)) (joined_sides (joined book.page)))

    -- the first drawing has at most 4,000 points
    pub first_few : (d : Drawing) → IsFirstDrawing book s d → length (all_exits d) ≤ 4000
    first_few d first = few_points s.polygon surface_polygon.0 surface_polygon.1 (map exits_of s.curves) (entries book) first.words first.words_are d first.drawn
