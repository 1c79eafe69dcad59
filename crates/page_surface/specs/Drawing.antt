-- Drawings: strands as lists of exits, the place order, chords and crossing.
use Rattle.std.specs.Prelude.{◌≡◌, ℕ, suc, ◌+◌, ◌-◌, ◌<◌, Bool, true, false, cond, nat_eq, nat_lt, ◌&&◌, not, List, [], ◌∷◌, map, length, slice_index_or, count_by}
use Rattle.std.specs.List.{flat_map, list_all, sum_by}
use Rattle.obd_base.specs.Lists.{below}
use Rattle.obd_base.specs.declared.points.Exit.{Exit}
use Rattle.page_surface.specs.Polygon.{IsPolygon, Polygon, arc_count, first_side, partner, second_side, sides}

-- a polygon, and the exits of each strand in order
pub record Drawing : Type 0 where
  pub polygon : Polygon
  pub strands : List (List Exit)

-- an exit by its side and place
abbrev pub exit : ℕ → ℕ → Exit
exit side place = record { side = side; place = place }

-- the exit is at this place of this side
abbrev pub is_at : Exit → ℕ → ℕ → Bool
is_at e side place = nat_eq e.side side && nat_eq e.place place

-- the exits of all strands
abbrev pub all_exits : Drawing → List Exit
all_exits d = flat_map (λ strand. strand) d.strands

-- the exits of a strand
abbrev pub strand_exits : Drawing → ℕ → List Exit
strand_exits d i = slice_index_or d.strands i []

-- the word of each strand: the sides by which it leaves
abbrev pub words : Drawing → List (List ℕ)
words d = map (map (λ e. e.side)) d.strands

-- how many points a side has: its exits, and the entries where a strand leaves through its partner
abbrev pub points_on : Drawing → ℕ → ℕ
points_on d k = count_by (λ e. nat_eq e.side k) (all_exits d) + count_by (λ e. nat_eq (partner d.polygon e.side) k) (all_exits d)

-- the entry that belongs to an exit, on the partner of its side
abbrev pub entry : Drawing → Exit → Exit
entry d e = exit (partner d.polygon e.side) (points_on d e.side - 1 - e.place)

-- the end of a side comes after its points
abbrev pub end_of : Drawing → ℕ → Exit
end_of d k = exit k (points_on d k)

-- The place order as numbers, counterclockwise from the start of side 0. Side k with m points takes m + 2 of them:
-- its points, its end, and one for the gap after it. A span, a segment or a gap, has the number of the point before
-- which it lies, so segment j of side k has that of (k, j), and gap k that of (k, m + 1).
abbrev pub offset : Drawing → ℕ → ℕ
offset d k = sum_by (λ i. points_on d i + 2) (below k)

-- the number of a point, or of the end of a side
abbrev pub spot : Drawing → Exit → ℕ
spot d e = offset d e.side + e.place

-- a chord by the numbers of its two ends
pub record Chord : Type 0 where
  pub from : ℕ
  pub to : ℕ

-- a strand from a start, cut at its exits, to an end
abbrev pub cut_strand : Drawing → Exit → List Exit → Exit → List Chord
cut_strand d start [] end = record { from = spot d start; to = spot d end } ∷ []
cut_strand d start (e ∷ exits) end = record { from = spot d start; to = spot d e } ∷ cut_strand d (entry d e) exits end

-- strand i runs from the end of its arc's second side to the end of its first side
abbrev pub strand_chords : Drawing → ℕ → List Chord
strand_chords d i = cut_strand d (end_of d (second_side d.polygon i)) (strand_exits d i) (end_of d (first_side d.polygon i))

-- the chords of all strands
abbrev pub chords : Drawing → List Chord
chords d = flat_map (strand_chords d) (below (arc_count d.polygon))

-- exactly one of two tests holds
abbrev pub differ : Bool → Bool → Bool
differ true b = not b
differ false b = b

-- the number is met on the way counterclockwise from the chord's lesser end to its greater end
abbrev pub beyond : Chord → ℕ → Bool
beyond c x = differ (nat_lt c.from x) (nat_lt c.to x)

-- the ends of two chords interleave
abbrev pub crosses : Chord → Chord → Bool
crosses c e = differ (beyond c e.from) (beyond c e.to)

-- no two of the chords cross
abbrev pub no_two_cross : List Chord → Bool
no_two_cross [] = true
no_two_cross (c ∷ cs) = list_all (λ e. not (crosses c e)) cs && no_two_cross cs

-- how often an exit stands at place j of side k, as exit or as entry. An entry's place is the one that, with the exit's
-- place and 1, makes the number of points; a place past the end so stands nowhere.
abbrev pub stands_at : Drawing → Exit → ℕ → ℕ → ℕ
stands_at d e k j =
    cond (is_at e k j) 1 0
    + cond (nat_eq (partner d.polygon e.side) k && nat_eq (suc (e.place + j)) (points_on d k)) 1 0

-- on each side the exits and entries together are numbered from 0, each place once
abbrev pub HasRightPlaces : Drawing → Type 0
HasRightPlaces d = (k : ℕ) → k < sides d.polygon → (j : ℕ) → j < points_on d k → sum_by (λ e. stands_at d e k j) (all_exits d) ≡ 1

-- a drawing that is one: a polygon with a side, a strand for each arc, exits on its sides, and right places
pub record IsPlaced (d : Drawing) : Type 0 where
  pub polygon : IsPolygon d.polygon
  pub strand_count : length d.strands ≡ arc_count d.polygon
  pub on_sides : list_all (λ e. nat_lt e.side (sides d.polygon)) (all_exits d) ≡ true
  pub places : HasRightPlaces d

-- and no two of its chords cross
pub record IsEmbedded (d : Drawing) : Type 0 where
  pub polygon : IsPolygon d.polygon
  pub strand_count : length d.strands ≡ arc_count d.polygon
  pub on_sides : list_all (λ e. nat_lt e.side (sides d.polygon)) (all_exits d) ≡ true
  pub places : HasRightPlaces d
  pub uncrossed : no_two_cross (chords d) ≡ true

-- the same as tests
abbrev pub right_on : Drawing → ℕ → Bool
right_on d k = list_all (λ j. nat_eq (sum_by (λ e. stands_at d e k j) (all_exits d)) 1) (below (points_on d k))

abbrev pub has_right_places : Drawing → Bool
has_right_places d = list_all (right_on d) (below (sides d.polygon))

abbrev pub is_placed : Drawing → Bool
is_placed d = nat_eq (length d.strands) (arc_count d.polygon) && (list_all (λ e. nat_lt e.side (sides d.polygon)) (all_exits d) && has_right_places d)

abbrev pub is_embedded : Drawing → Bool
is_embedded d = is_placed d && no_two_cross (chords d)

-- the drawing in which each strand crosses its own arc once: its one letter is the arc's second side
abbrev pub identity : Polygon → Drawing
identity p = record { polygon = p; strands = map (λ i. exit (second_side p i) 0 ∷ []) (below (arc_count p)) }
