-- The strands of the identity drawing, as they are built.
use Rattle.std.proofs.Common.{◌≡◌, ℕ, ◌+◌, List, [], ◌∷◌, ◌++◌, map, sym, ◌∙◌, ◌≤◌, ◌/◌, ap, arith, zero-add}
use Rattle.std.proofs.lemmas.List.FromFn.{map-range_with_len_more}
use Rattle.obd_base.specs.declared.points.Exit.{Exit}
use Rattle.obd_base.specs.Lists.{below}
use Rattle.page_surface.specs.Drawing.{exit}
use Rattle.page_surface.specs.Polygon.{Polygon, arc_count, second_side, sides}

-- a strand that leaves by the second side of its arc
pub strands_more : (p : Polygon) (arc side : ℕ) (strands after : List (List Exit)) (exits : List Exit)
    → strands ≡ map (λ i. exit (second_side p i) 0 ∷ []) (below arc) → exits ≡ exit side 0 ∷ [] → side ≡ second_side p arc → after ≡ strands ++ (exits ∷ [])
    → after ≡ map (λ i. exit (second_side p i) 0 ∷ []) (below (arc + 1))
strands_more p arc side strands after exits so_far is second is_after =
    rw (is_after, is, so_far, second) (sym (map-range_with_len_more (λ i. exit (second_side p i) 0 ∷ []) 0 arc arc (zero-add arc)))

-- the strands of all arcs
pub all_strands : (p : Polygon) (arc s : ℕ) (strands : List (List Exit)) → s ≡ sides p → s / 2 ≤ arc → arc ≤ s / 2
    → strands ≡ map (λ i. exit (second_side p i) 0 ∷ []) (below arc) → strands ≡ map (λ i. exit (second_side p i) 0 ∷ []) (below (arc_count p))
all_strands p arc s strands is least most so_far =
    let e : arc ≡ arc_count p = omega (arith, is, least, most) in so_far ∙ ap (λ (n : ℕ). map (λ i. exit (second_side p i) 0 ∷ []) (below n)) e
