-- Innermost turns of strands, a drawing without one, and what comes when turns are taken out.
use Rattle.std.specs.Prelude.{◌≡◌, ℕ, suc, ◌+◌, ◌-◌, ◌<◌, ◌⊎◌, min, cond, nat_eq, nat_lt, List, ◌∷◌, ◌++◌, map, slice_index_or}
use Rattle.std.specs.List.{enumerate_from}
use Rattle.obd_base.specs.declared.points.Exit.{Exit}
use Rattle.page_surface.specs.Polygon.{partner, arc_count}
use Rattle.page_surface.specs.Drawing.{Drawing, IsEmbedded, exit, points_on, strand_exits}
use Rattle.page_surface.specs.Words.{Steps}

-- of two exits of a strand that follow one another: it leaves through a side and comes back through it, and the two points
-- are neighbours
pub record TurnsBack (d : Drawing) (out back : Exit) : Type 0 where
  pub returns : back.side ≡ partner d.polygon out.side
  pub neighbours : (out.place + back.place ≡ points_on d out.side) ⊎ (out.place + back.place + 2 ≡ points_on d out.side)

-- a turn of a strand: two exits that follow one another and turn back
pub record IsTurn (d : Drawing) (i : ℕ) (before : List Exit) (out back : Exit) (after : List Exit) : Type 0 where
  pub arc : i < arc_count d.polygon
  pub splits : strand_exits d i ≡ before ++ (out ∷ back ∷ after)
  pub turns : TurnsBack d out back

-- no two exits of a strand that follow one another turn back, before the exit with a number
abbrev pub NoTurnBefore : Drawing → List Exit → ℕ → Type 0
NoTurnBefore d exits at = (n : ℕ) (out back : Exit) → suc n < at → out ≡ slice_index_or exits n out → back ≡ slice_index_or exits (suc n) back → TurnsBack d out back → ⊥

-- the lesser of the two places that a turn takes on the side it leaves through
abbrev pub turn_place : Drawing → Exit → Exit → ℕ
turn_place d out back = min out.place (points_on d out.side - 1 - back.place)

-- and on its partner
abbrev pub far_place : Drawing → Exit → Exit → ℕ
far_place d out back = min back.place (points_on d out.side - 1 - out.place)

-- a place after the two that are taken away at place t
abbrev pub lowered_place : ℕ → ℕ → ℕ
lowered_place t j = j - cond (nat_lt j t) 0 2

-- an exit that is kept, in the numbers of the drawing without the turn
abbrev pub lowered : Drawing → Exit → Exit → Exit → Exit
lowered d out back e =
    exit e.side
    (cond (nat_eq e.side out.side) (lowered_place (turn_place d out back) e.place)
    (cond (nat_eq e.side (partner d.polygon out.side)) (lowered_place (far_place d out back) e.place) e.place))

-- the drawing without a turn of strand i
abbrev pub without_turn : Drawing → ℕ → List Exit → Exit → Exit → List Exit → Drawing
without_turn d i before out back after = record {
  polygon = d.polygon;
  strands = map (λ s. map (lowered d out back) (cond (nat_eq s.0 i) (before ++ after) s.1)) (enumerate_from 0 d.strands);
}

-- what comes from a drawing when turns are taken out, one after another
pub data TurnsOut : Drawing → Drawing → Type 0 where
  no_more : {d : Drawing} → TurnsOut d d
  one_more : {d e : Drawing} {i : ℕ} {before : List Exit} {out back : Exit} {after : List Exit}
      → IsTurn d i before out back after → TurnsOut (without_turn d i before out back after) e → TurnsOut d e

-- what words tell of it: it is embedded, and each of its words comes by steps that take out cancelling pairs
pub record Loosened (d e : Drawing) : Type 0 where
  pub embedded : IsEmbedded e
  pub polygon : e.polygon ≡ d.polygon
  pub steps : (i : ℕ) → i < arc_count d.polygon → Steps d.polygon (map (λ e. e.side) (strand_exits d i)) (map (λ e. e.side) (strand_exits e i))
