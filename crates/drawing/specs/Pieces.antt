-- Spans, the pieces that chords cut the polygon into, and their distances from the boundary.
use Rattle.std.specs.Prelude.{ℕ, ◌+◌, ◌-◌, Bool, nat_eq, nat_lt, ◌&&◌, not, min, List, [], ◌∷◌, filter, map, length, slice_index, count_by}
use Rattle.std.specs.List.{list_any, position_or_len}
use Rattle.obd_base.specs.Lists.{below}
use Rattle.page_surface.specs.Drawing.{Chord, Drawing, beyond, chords, differ, end_of, offset, spot}
use Rattle.page_surface.specs.Polygon.{sides}

-- the segments of all sides and all gaps, by their numbers in the place order
abbrev pub span_count : Drawing → ℕ
span_count d = offset d (sides d.polygon)

-- all of them
abbrev pub spans : Drawing → List ℕ
spans d = below (span_count d)

-- gap k, the span after the end of side k
abbrev pub gap : Drawing → ℕ → ℕ
gap d k = spot d (end_of d k) + 1

-- all gaps
abbrev pub gaps : Drawing → List ℕ
gaps d = map (gap d) (below (sides d.polygon))

-- a chord separates two spans where exactly one of them is met on the way between its ends
abbrev pub separates : Chord → ℕ → ℕ → Bool
separates c s t = differ (beyond c s) (beyond c t)

-- how many chords separate two spans
abbrev pub separated_by : List Chord → ℕ → ℕ → ℕ
separated_by cs s t = count_by (λ c. separates c s t) cs

-- a number is met on the way from the lesser of two spans to the greater
abbrev pub between : ℕ → ℕ → ℕ → Bool
between s t x = differ (nat_lt x s) (nat_lt x t)

-- a chord that begins elsewhere separates a span from the span before which another chord begins
abbrev pub parts_from : ℕ → ℕ → Chord → Bool
parts_from start t e = separates e start t && not (nat_eq e.from start)

-- no chord separates the two spans
abbrev pub same_piece : List Chord → ℕ → ℕ → Bool
same_piece cs s t = not (list_any (λ c. separates c s t) cs)

-- a piece is named by its first span
abbrev pub piece_of : Drawing → ℕ → ℕ
piece_of d s = let cs = chords d in position_or_len (same_piece cs s) (spans d)

-- the piece of each span
abbrev pub piece_table : Drawing → List ℕ
piece_table d = let cs = chords d in let ss = spans d in map (λ s. position_or_len (same_piece cs s) ss) ss

-- the pieces, by their first spans
abbrev pub pieces : Drawing → List ℕ
pieces d = let t = piece_table d in filter (λ s. nat_eq (slice_index t s) s) (spans d)

-- the piece has a gap
abbrev pub is_base : Drawing → ℕ → Bool
is_base d s = let cs = chords d in list_any (same_piece cs s) (gaps d)

-- the pieces that aren't base
abbrev pub inner_pieces : Drawing → List ℕ
inner_pieces d = filter (λ s. not (is_base d s)) (pieces d)

-- the spans of a piece; for a piece that isn't base these are its segments
abbrev pub segments_in : Drawing → ℕ → List ℕ
segments_in d s = let cs = chords d in filter (same_piece cs s) (spans d)

-- a piece with m segments has m chords, and so 2m corners
abbrev pub corners : Drawing → ℕ → ℕ
corners d s = let m = length (segments_in d s) in m + m

-- how many segments the piece has above two
abbrev pub badness : Drawing → ℕ → ℕ
badness d s = length (segments_in d s) - 2

-- the least of some numbers, none of them above n
abbrev pub least_of : ℕ → List ℕ → ℕ
least_of n [] = n
least_of n (x ∷ xs) = min x (least_of n xs)

-- the least number of chords that separate the span from a gap
abbrev pub distance : Drawing → ℕ → ℕ
distance d s = let cs = chords d in least_of (length cs) (map (separated_by cs s) (gaps d))
