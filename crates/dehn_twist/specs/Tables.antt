-- The tables from which the surgery is built.
use Rattle.std.specs.Prelude.{◌≡◌, ℕ, suc, ◌+◌, ◌-◌, ◌≤◌, Bool, cond, nat_lt, ◌&&◌, not, List, map, length, slice_index_or, count_by, []}
use Rattle.obd_base.specs.Lists.{below}
use Rattle.obd_base.specs.declared.points.Exit.{Exit}
use Rattle.obd_base.specs.declared.points.Sign.{Sign}
use Rattle.page_surface.specs.Drawing.{Chord, Drawing, IsEmbedded, all_exits, beyond, end_of, exit, points_on, strand_exits}
use Rattle.page_surface.specs.Polygon.{Polygon, first_side, second_side, sides}
use Rattle.curve_paths.specs.Curves.{IsCurve, curve_points}
use Rattle.drawing.specs.Round.{other_end}
use Rattle.dehn_twist.specs.Surgery.{chord_at, curve_mate, curve_number, curve_ring, goes_up, is_chord_end, loop_at, meeting_count, meetings_upto, meets_at, merged_chords, merged_curve, merged_cut, merged_start, strand_number, surgery_strand}
use Rattle.dehn_twist.specs.declared.ring.CurvePoint.{CurvePoint}

-- a drawing with a curve on its polygon
pub record Pair : Type 0 where
  pub drawing : Drawing
  pub curve : List Exit

-- a drawing and a curve that a twist takes
pub record AreTaken (d : Drawing) (c : List Exit) : Type 0 where
  pub embedded : IsEmbedded d
  pub curve : IsCurve d.polygon c
  pub few_sides : sides d.polygon ≤ 16
  pub few_points : length (all_exits d) ≤ 4000
  pub some_exits : 1 ≤ length c
  pub few_exits : length c ≤ 32

-- these with how many points of each kind the sides have, and where the sides begin in the merged order
pub record IsMerged (d : Drawing) (c : List Exit) (points counts starts : List ℕ) : Type 0 where
  pub taken : AreTaken d c
  pub points_are : points ≡ map (points_on d) (below (sides d.polygon))
  pub counts_are : counts ≡ map (curve_points d.polygon c) (below (sides d.polygon))
  pub starts_are : starts ≡ map (merged_start d c) (below (suc (sides d.polygon)))

-- the merged chords of one strand
abbrev pub merged_strand : Drawing → List Exit → ℕ → List Chord
merged_strand d c i = merged_cut d c (end_of d (second_side d.polygon i)) (strand_exits d i) (end_of d (first_side d.polygon i))

-- the other ends of the strands' chords, number by number
abbrev pub merged_mates : Drawing → List Exit → List ℕ
merged_mates d c = map (other_end (merged_chords d c)) (below (merged_start d c (sides d.polygon)))

-- a chord has a number, and not its mate, between its ends
abbrev pub parts : List ℕ → Chord → ℕ → Bool
parts mates a x = beyond a x && not (beyond a (slice_index_or mates x x))

-- how many such numbers come before each number
abbrev pub crossed_of : List ℕ → Chord → List ℕ
crossed_of mates a = map (λ z. count_by (parts mates a) (below z)) (below (suc (length mates)))

-- what is asked of a point of the curve: its number, the other end of its chord, which chord that is, and whether it ends there
abbrev pub curve_point : Drawing → List Exit → Exit → CurvePoint
curve_point d c q = record { number = curve_number d c q; mate = curve_number d c (curve_mate d.polygon c q); chord = chord_at d.polygon c q; ends = is_chord_end c q }

-- the meetings as tables: the curve's chords, how many of its meetings come before each number, how many come before each
-- chord's, and the points of the curve in order
pub record AreMeetings (d : Drawing) (c : List Exit) (chords : List Chord) (crossed : List (List ℕ)) (uptos : List ℕ) (ring : List CurvePoint) : Type 0 where
  pub chords_are : chords ≡ map (merged_curve d c) (below (length c))
  pub crossed_are : crossed ≡ map (crossed_of (merged_mates d c)) chords
  pub uptos_are : uptos ≡ map (meetings_upto d c) (below (suc (length c)))
  pub ring_are : ring ≡ map (curve_point d c) (curve_ring d.polygon c)

-- the number so many exits after an exit, round
abbrev pub round : ℕ → ℕ → ℕ → ℕ
round n a i = cond (nat_lt (a + i) n) (a + i) (a + i - n)

-- the point of the curve with a number
abbrev pub ring_at : Polygon → List Exit → ℕ → Exit
ring_at p c i = slice_index_or (curve_ring p c) i (exit 0 0)

-- the number of the point to which a chord comes after so many of all points of the curve
abbrev pub point_met : Polygon → List Exit → Chord → ℕ → ℕ
point_met p c t i = cond (goes_up t) i (length (curve_ring p c) - 1 - i)

-- the loop at a point of the curve where a strand's chord meets it, and none elsewhere
abbrev pub loop_met : Drawing → List Exit → Sign → Chord → Exit → List Exit
loop_met d c sign t q = cond (meets_at d c t q) (loop_at d c sign (meeting_count d c) t q) []

-- a strand's chord by the merged numbers of its ends
abbrev pub merged_chord : Drawing → List Exit → Exit → Exit → Chord
merged_chord d c a z = record { from = strand_number d c a; to = strand_number d c z }

-- a strand with its loops, by its number
abbrev pub surgery_row : Drawing → List Exit → Sign → ℕ → List Exit
surgery_row d c sign i = surgery_strand d c sign (meeting_count d c) (end_of d (second_side d.polygon i)) (strand_exits d i) (end_of d (first_side d.polygon i))
