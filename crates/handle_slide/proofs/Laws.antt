-- What a slide that isn't refused leaves: a polygon, and curves on it.
use Rattle.std.specs.Prelude.{All, IfSome}
use Rattle.std.proofs.Common.{◌≡◌, ℕ, zero, suc, ◌*◌, ◌<◌, ◌≤◌, not, List, [], ◌∷◌, map, length, get_or, Option, Some, None, sym, subst, arith}
use Rattle.std.proofs.lemmas.List.{get_or-map, length-map}
use Rattle.obd_base.specs.declared.points.Exit.{Exit}
use Rattle.obd_base.proofs.lists.Sums.{bit-le}
use Rattle.page_surface.specs.Polygon.{IsPolygon, Polygon, sides}
use Rattle.curve_paths.specs.Curves.{IsCurve}
use Rattle.handle_slide.specs.Refused.{IsSelfSlide}
use Rattle.handle_slide.specs.Slide.{slid_curve, slid_exits, slid_polygon, some_curve}
use Rattle.handle_slide.proofs.NewNumbers.{length-slid_polygon, slid_is_polygon}
use Rattle.handle_slide.proofs.SlidCurve.{slid_curve_is}
use Rattle.handle_slide.proofs.SlidExits.{gone, length-slid_exits, post, pre, start, start_suc}

-- a slide leaves a polygon with as many sides
pub slide_polygon : (p : Polygon) (k : ℕ) → IsPolygon p → k < sides p → (IsSelfSlide p k → ⊥) → IsPolygon (slid_polygon p k) × (sides (slid_polygon p k) ≡ sides p)
slide_polygon p k is lk slides = (slid_is_polygon p is k lk slides, length-slid_polygon p is k lk slides)

-- a curve after it is a curve, which may have lost all exits
pub slide_curve : (p : Polygon) (k : ℕ) → IsPolygon p → k < sides p → (IsSelfSlide p k → ⊥) → (c : List Exit) → IsCurve p c → IsCurve (slid_polygon p k) (slid_exits p k c)
slide_curve p k is lk slides c curve = slid_curve_is p is k lk slides c curve

-- at most three exits for each
pub slide_size : (p : Polygon) (k : ℕ) (c : List Exit) → length (slid_exits p k c) ≤ 3 * length c
slide_size p k c = omega (arith, length-slid_exits p k c, up_to (length c))
  where
    up_to : (i : ℕ) → start p k c i ≤ 3 * i
    up_to zero = omega arith
    up_to (suc i) = omega (arith, start_suc p k c i, up_to i, bit-le (pre p k c i), bit-le (not (gone p k c i)), bit-le (post p k c i))

-- the curves of a polygon are curves of the new one
pub slide_curves : (p : Polygon) (k : ℕ) (curves : List (Option (List Exit))) → IsPolygon p → k < sides p → (IsSelfSlide p k → ⊥) → All (λ curve. IfSome curve (IsCurve p)) curves
    → All (λ curve. IfSome curve (IsCurve (slid_polygon p k))) (map (slid_curve p k) curves)
slide_curves p k curves is lk slides all i d l =
    let short : i < length curves = omega (arith, l, length-map curves (slid_curve p k)) in
    subst (λ curve. IfSome curve (IsCurve (slid_polygon p k))) (sym (get_or-map (slid_curve p k) curves i None d short)) (carried (get_or curves i None) (all i None short))
  where
    some : (es : List Exit) → IsCurve (slid_polygon p k) es → IfSome (some_curve es) (IsCurve (slid_polygon p k))
    some [] h = tt
    some (e ∷ es) h = h

    carried : (x : Option (List Exit)) → IfSome x (IsCurve p) → IfSome (slid_curve p k x) (IsCurve (slid_polygon p k))
    carried None h = tt
    carried (Some c) h = some (slid_exits p k c) (slid_curve_is p is k lk slides c h)
