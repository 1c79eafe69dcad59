-- Counts by rows: of the segments of a path by side, and of the chords of a burst by strand.
use Rattle.std.specs.Prelude.{◌≡◌, ℕ, ◌+◌, ◌*◌, ◌-◌, ◌<◌, ◌≤◌, List, [], length, slice_index_or, slice_set, sum, take}
use Rattle.std.specs.List.{sum_by}
use Rattle.obd_base.specs.declared.points.Exit.{Exit}
use Rattle.page_surface.specs.Drawing.{Drawing, points_on, strand_exits}
use Rattle.page_surface.specs.Polygon.{arc_count, partner, sides}
use Rattle.nice_plan.specs.declared.chord_name.ChordName.{ChordName}
use Rattle.nice_plan.specs.Counts.{one_more}
use Rattle.nice_plan.specs.Numbers.{chord_lift, lift}

-- row k
abbrev pub row : List (List ℕ) → ℕ → List ℕ
row rows k = slice_index_or rows k []

-- how much stands on row k before place x
abbrev pub before : List (List ℕ) → ℕ → ℕ → ℕ
before rows k x = sum (take x (row rows k))

-- one more at place x of row k
abbrev pub marked : List (List ℕ) → ℕ → ℕ → List (List ℕ)
marked rows k x = slice_set rows k (one_more (row rows k) x)

-- a segment and the one that it is glued to
abbrev pub both_marked : Drawing → List (List ℕ) → Exit → List (List ℕ)
both_marked d rows s = marked (marked rows s.side s.place) (partner d.polygon s.side) (points_on d s.side - s.place)

-- n rows of which row k has more than `places k` places
pub record HasRows (n : ℕ) (places : ℕ → ℕ) (rows : List (List ℕ)) : Type 0 where
  pub count : length rows ≡ n
  pub room : (k : ℕ) → k < n → places k < length (row rows k)

-- nothing stands on them
pub record IsEmpty (n : ℕ) (places : ℕ → ℕ) (rows : List (List ℕ)) : Type 0 where
  pub shape : HasRows n places rows
  pub none : (k : ℕ) → sum (row rows k) ≡ 0

-- some segments, and those that they are glued to, stand on them by side; so twice what stands before a segment is by how much they raise it
pub record IsCounted (d : Drawing) (segments : List Exit) (rows : List (List ℕ)) : Type 0 where
  pub shape : HasRows (sides d.polygon) (points_on d) rows
  pub few : (k : ℕ) → sum (row rows k) ≤ length segments + length segments
  pub lifts : (e : Exit) → before rows e.side e.place + before rows e.side e.place ≡ sum_by (λ s. lift d s e) segments

-- some chords stand on them by strand; so what stands before a chord tells by how much rows of n segments raise it
pub record AreChordsCounted (d : Drawing) (n : ℕ) (chords : List ChordName) (rows : List (List ℕ)) : Type 0 where
  pub shape : HasRows (arc_count d.polygon) (λ i. length (strand_exits d i)) rows
  pub few : (k : ℕ) → sum (row rows k) ≤ length chords
  pub lifts : (c : ChordName) → (n + n) * before rows c.strand c.chord ≡ sum_by (λ b. chord_lift n b c) chords
