-- What is written in place where a finger puts in two points, each under two names.
use Rattle.std.specs.Prelude.{◌≡◌, ℕ, ◌+◌, ◌<◌, ◌≤◌, cond, nat_eq, nat_lt, List, [], ◌∷◌, ◌++◌, drop, length, map, slice_index, slice_index_or, slice_set, take}
use Rattle.obd_base.specs.declared.points.Exit.{Exit}
use Rattle.page_surface.specs.Drawing.{exit}
use Rattle.drawing.specs.declared.finger.Finger.{Finger}

-- where a point stands when two points are put in before a place of a side, and two before a place of another
abbrev pub raised : Exit → Exit → Exit → Exit
raised near far e =
    exit e.side (e.place +
    (cond (nat_eq e.side near.side) (cond (nat_lt e.place near.place) 0 2)
    (cond (nat_eq e.side far.side) (cond (nat_lt e.place far.place) 0 2) 0)))

-- the same, told by a table of the sides: from which place on the points of each move on
abbrev pub raised_by : List ℕ → Exit → Exit
raised_by limits e = exit e.side (e.place + cond (nat_lt e.place (slice_index limits e.side)) 0 2)

-- where side k begins then
abbrev pub raised_side : ℕ → ℕ → ℕ → ℕ → ℕ
raised_side near far k start = start + (cond (nat_lt near k) 2 0 + cond (nat_lt far k) 2 0)

-- some exits, with two more behind so many
abbrev pub with_two : ℕ → Exit → Exit → List Exit → List Exit
with_two count out back exits = take count exits ++ (out ∷ back ∷ drop count exits)

-- the strands with the two new points of a finger, of which the later one is the way out where 'out' is 1
abbrev pub pushed_rows : Exit → Exit → Finger → ℕ → List (List Exit) → List (List Exit)
pushed_rows near far f out strands =
    let moved = map (map (raised near far)) strands in
    slice_set moved f.strand (with_two f.chord (exit near.side (near.place + out)) (exit far.side (far.place + out)) (slice_index_or moved f.strand []))

-- where a number is when two are put in before one number, and two before another
abbrev pub moved_on : ℕ → ℕ → ℕ → ℕ
moved_on t u x = x + (cond (nat_lt x t) 0 2 + cond (nat_lt x u) 0 2)

-- a table with an item put in twice before a number and twice before another
pub record IsPutIn (item t u : ℕ) (old new : List ℕ) : Type 0 where
  pub size : length new ≡ length old + 4
  pub kept : (x : ℕ) → x < length old → slice_index new (moved_on t u x) ≡ slice_index old x
  pub one : (j : ℕ) → j ≤ 1 → slice_index new (t + cond (nat_lt t u) 0 2 + j) ≡ item
  pub other : (j : ℕ) → j ≤ 1 → slice_index new (u + cond (nat_lt u t) 0 2 + j) ≡ item
