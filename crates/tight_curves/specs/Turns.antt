-- How a turn is told by the exits of a part, and what is left without it.
use Rattle.std.specs.Prelude.{ℕ, suc, ◌+◌, ◌-◌, ◌<◌, ◌≤◌, Bool, cond, nat_eq, nat_lt, ◌&&◌, ◌||◌, not, List, ◌++◌, length, take, drop, count_by}
use Rattle.std.specs.List.{list_any}
use Rattle.obd_base.specs.declared.points.Exit.{Exit}
use Rattle.page_surface.specs.Polygon.{Polygon, partner}
use Rattle.curve_paths.specs.Curves.{curve_points, exit_at}
use Rattle.tight_curves.specs.Parts.{IsInnermost, IsPart, TurnsTaken}

-- a number stands strictly between two others, whichever is less
abbrev pub is_between : ℕ → ℕ → ℕ → Bool
is_between from to j = (nat_lt from j && nat_lt j to) || (nat_lt to j && nat_lt j from)

-- the exit leaves by a side strictly between two places
abbrev pub leaves_between : ℕ → ℕ → ℕ → Exit → Bool
leaves_between side from to e = nat_eq e.side side && is_between from to e.place

-- the exit after exit i, read round
abbrev pub after : ℕ → ℕ → ℕ
after n i = cond (nat_eq (suc i) n) 0 (suc i)

-- the second exit comes back through the side by which the first one left, and no exit leaves between them by either side
abbrev pub turns_back : Polygon → List Exit → List Exit → Exit → Exit → Bool
turns_back p c part out back =
    nat_eq back.side (partner p out.side)
    && (not (list_any (leaves_between out.side out.place (curve_points p c out.side - 1 - back.place)) part)
    && not (list_any (leaves_between back.side (curve_points p c out.side - 1 - out.place) back.place) part))

-- the test at exit i and the exit after it
abbrev pub is_turn_at : Polygon → List Exit → List Exit → ℕ → Bool
is_turn_at p c part i = turns_back p c part (exit_at part i) (exit_at part (after (length part) i))

-- exit i and the exit after it are an innermost turn
pub record IsTurnAt (p : Polygon) (c part : List Exit) (i : ℕ) : Type 0 where
  pub index : i < length part
  pub two : 2 ≤ length part
  pub innermost : IsInnermost p c part (exit_at part i) (exit_at part (after (length part) i))

-- a part without exit i and the exit after it
abbrev pub without_turn : ℕ → List Exit → List Exit
without_turn i part = cond (nat_eq (suc i) (length part)) (drop 1 (take i part)) (take i part ++ drop (i + 2) part)

-- a part that comes from another one when innermost turns are taken out
pub record IsLoosened (p : Polygon) (c from part : List Exit) : Type 0 where
  pub taken : TurnsTaken p c from part
  pub is_part : IsPart p c part
  pub fewer : length part ≤ length from

-- the exit makes a point before a place of a side: it leaves there, or it leaves by the partner after the place across
abbrev pub makes_before : Polygon → List Exit → Exit → Exit → Bool
makes_before p c at e =
    (nat_eq e.side at.side && nat_lt e.place at.place)
    || (nat_eq e.side (partner p at.side) && nat_lt (curve_points p c at.side - 1 - at.place) e.place)

-- the place of an exit in a part, by its exits
abbrev pub place_by_exits : Polygon → List Exit → List Exit → Exit → ℕ
place_by_exits p c part at = count_by (makes_before p c at) part
