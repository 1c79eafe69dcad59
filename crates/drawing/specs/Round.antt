-- The way round a piece, and the numbers of the place order by their sides and places.
use Rattle.std.specs.Prelude.{ℕ, zero, suc, ◌+◌, ◌-◌, cond, nat_eq, nat_lt, ◌||◌, not, List, [], ◌∷◌}
use Rattle.std.specs.List.{position_or_len}
use Rattle.obd_base.specs.Lists.{below}
use Rattle.page_surface.specs.Drawing.{Chord, Drawing, chords, offset, points_on}
use Rattle.page_surface.specs.Polygon.{arc, first_side, partner, sides}
use Rattle.drawing.specs.Pieces.{span_count}

-- the other end of the chord that ends at a number
abbrev pub other_end : List Chord → ℕ → ℕ
other_end [] x = x
other_end (c ∷ cs) x = cond (nat_eq c.from x) c.to (cond (nat_eq c.to x) c.from (other_end cs x))

-- the next segment of a piece that isn't base, counterclockwise: behind the other end of the chord at the segment's end
abbrev pub next_segment : Drawing → ℕ → ℕ
next_segment d s = suc (other_end (chords d) s)

-- and clockwise
abbrev pub previous_segment : Drawing → ℕ → ℕ
previous_segment d s = other_end (chords d) (s - 1)

-- the next span of any piece; no chord ends at a gap, and after the last gap comes span 0
abbrev pub next_span : Drawing → ℕ → ℕ
next_span d s = let t = suc (other_end (chords d) s) in cond (nat_eq t (span_count d)) 0 t

-- and clockwise
abbrev pub previous_span : Drawing → ℕ → ℕ
previous_span d s = other_end (chords d) (cond (nat_eq s 0) (span_count d - 1) (s - 1))

-- so many steps counterclockwise
abbrev pub rounds : Drawing → ℕ → ℕ → ℕ
rounds d zero s = s
rounds d (suc i) s = rounds d i (next_span d s)

-- the side of a number of the place order
abbrev pub side_of : Drawing → ℕ → ℕ
side_of d x = position_or_len (λ k. nat_lt x (offset d (suc k))) (below (sides d.polygon))

-- its place on the side
abbrev pub place_of : Drawing → ℕ → ℕ
place_of d x = x - offset d (side_of d x)

-- the other name of a crossing point; the end of a side has the end of its partner
abbrev pub opposite : Drawing → ℕ → ℕ
opposite d x =
    let k = side_of d x in
    let j = place_of d x in
    let m = points_on d k in
    offset d (partner d.polygon k) + cond (nat_lt j m) (m - 1 - j) m

-- a point of an arc by its number on the arc's first side; the contact point is the end of that side
abbrev pub point_name : Drawing → ℕ → ℕ → ℕ
point_name d a j = offset d (first_side d.polygon a) + j

-- the arc of a number
abbrev pub arc_of : Drawing → ℕ → ℕ
arc_of d x = arc d.polygon (side_of d x)

-- the number of its point on that arc
abbrev pub point_of : Drawing → ℕ → ℕ
point_of d x =
    let k = side_of d x in
    let j = place_of d x in
    let m = points_on d k in
    cond (nat_eq k (first_side d.polygon (arc d.polygon k)) || not (nat_lt j m)) j (m - 1 - j)
