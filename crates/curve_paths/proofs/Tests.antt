-- The test `is_curve_list` says what the record `IsCurve` says.
use Rattle.std.proofs.Common.{◌≡◌, ℕ, Bool, true, eqb, ltb, not, ◌&&◌, List, length, ap}
use Rattle.std.specs.List.{list_all, sum_by}
use Rattle.std.proofs.lemmas.Bool.{eqb-true, eq-eqb, ltb-true, lt-ltb, and_parts, and_from, not-true}
use Rattle.obd_base.specs.Lists.{below}
use Rattle.obd_base.specs.declared.points.Exit.{Exit}
use Rattle.obd_base.proofs.lists.Below.{all_below, mem_below}
use Rattle.page_surface.specs.Polygon.{Polygon, sides}
use Rattle.page_surface.specs.Drawing.{crosses}
use Rattle.page_surface.proofs.EmbeddedTest.{all_from, all_in}
use Rattle.curve_paths.specs.Curves.{curve_points, curve_stands, curve_chord, IsCurve, is_curve_list}

-- an exit stands at a place of a side
abbrev stands_on : Polygon → List Exit → Exit → Bool
stands_on p c e = ltb e.side (sides p) && ltb e.place (curve_points p c e.side)

-- a place is met once
abbrev met_once : Polygon → List Exit → ℕ → ℕ → Bool
met_once p c k j = eqb (sum_by (λ e. curve_stands p c e k j) c) 1

-- each place of a side is
abbrev right_side : Polygon → List Exit → ℕ → Bool
right_side p c k = list_all (met_once p c k) (below (curve_points p c k))

-- two chords do not cross
abbrev clear : Polygon → List Exit → ℕ → ℕ → Bool
clear p c b a = not (crosses (curve_chord p c a) (curve_chord p c b))

-- a chord crosses none before it
abbrev clear_before : Polygon → List Exit → ℕ → Bool
clear_before p c b = list_all (clear p c b) (below b)

-- exits that pass are a curve
pub curve_from_test : (p : Polygon) (c : List Exit) → is_curve_list p c ≡ true → IsCurve p c
curve_from_test p c h =
    let r = and_parts (list_all (stands_on p c) c) (list_all (right_side p c) (below (sides p)) && list_all (clear_before p c) (below (length c))) h in
    let s = and_parts (list_all (right_side p c) (below (sides p))) (list_all (clear_before p c) (below (length c))) r.1 in
    record {
      in_range = λ e k. let t = and_parts (ltb e.side (sides p)) (ltb e.place (curve_points p c e.side)) (all_in (stands_on p c) e c r.0 k) in (ltb-true _ _ t.0, ltb-true _ _ t.1);
      right = λ k j lk lj. eqb-true _ _ (all_below (met_once p c k) (curve_points p c k) (all_below (right_side p c) (sides p) s.0 k lk) j lj);
      uncrossed = λ a b l lb. not-true _ (all_below (clear p c b) b (all_below (clear_before p c) (length c) s.1 b lb) a l);
    }

-- a curve passes
pub test_from_curve : (p : Polygon) (c : List Exit) → IsCurve p c → is_curve_list p c ≡ true
test_from_curve p c ok =
    and_from (list_all (stands_on p c) c) _ (all_from (stands_on p c) c (λ e m. let r = ok.in_range e m in and_from _ _ (lt-ltb _ _ r.0) (lt-ltb _ _ r.1)))
    (and_from (list_all (right_side p c) (below (sides p))) (list_all (clear_before p c) (below (length c)))
    (all_from (right_side p c) (below (sides p)) (λ k m. all_from (met_once p c k) (below (curve_points p c k)) (λ j n. eq-eqb _ _ (ok.right k j (mem_below _ k m) (mem_below _ j n)))))
    (all_from (clear_before p c) (below (length c)) (λ b m. all_from (clear p c b) (below b) (λ a n. ap not (ok.uncrossed a b (mem_below _ a n) (mem_below _ b m))))))
