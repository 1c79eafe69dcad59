-- Worked bursts.
use Rattle.std.proofs.Common.{◌≡◌, [], ◌∷◌, refl}
use Rattle.page_surface.proofs.Examples.{torus_five_pairs, torus_two_hexagons}
use Rattle.drawing.specs.Fingers.{finger, pushed, replayed}
use Rattle.region_table.specs.Nice.{weight}
use Rattle.nice_plan.specs.Burst.{burst}
use Rattle.nice_plan.specs.Strategy.{IsStrategy, bursts, nice}

-- the weight of the drawing with two hexagons goes from 2 to 1 to 0
torus_weight : weight torus_two_hexagons ≡ 2
torus_weight = refl

torus_second_weight : weight (pushed torus_two_hexagons (finger 0 2 3 2)) ≡ 1
torus_second_weight = refl

torus_last_weight : weight (replayed torus_two_hexagons (finger 0 2 3 2 ∷ finger 1 1 3 1 ∷ finger 1 2 3 4 ∷ [])) ≡ 0
torus_last_weight = refl

-- of two hexagons at distance 1 the first is taken apart by one finger
torus_two_hexagons_burst : burst torus_two_hexagons ≡ finger 0 2 3 2 ∷ []
torus_two_hexagons_burst = refl

-- and the second, over a piece of two segments, by two
torus_second_burst : burst (pushed torus_two_hexagons (finger 0 2 3 2)) ≡ finger 1 1 3 1 ∷ finger 1 2 3 4 ∷ []
torus_second_burst = refl

-- then the drawing is nice
torus_strategy : IsStrategy torus_two_hexagons (finger 0 2 3 2 ∷ finger 1 1 3 1 ∷ finger 1 2 3 4 ∷ [])
torus_strategy = bursts refl (bursts refl (nice refl))

-- a hexagon at distance 3 takes three chords
torus_five_pairs_burst : burst torus_five_pairs ≡ finger 0 2 3 4 ∷ finger 1 4 3 5 ∷ finger 0 8 3 6 ∷ []
torus_five_pairs_burst = refl
