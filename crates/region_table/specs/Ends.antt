-- A table that tells which chord ends at a number of the place order.
use Rattle.std.specs.Prelude.{◌≡◌, ◌⊎◌, ℕ, ◌<◌, ◌≤◌, ◌^◌, List, [], length, map, slice_index, slice_index_or}
use Rattle.page_surface.specs.Drawing.{Drawing, IsEmbedded, all_exits, chords}
use Rattle.page_surface.specs.Polygon.{Polygon, sides}
use Rattle.drawing.specs.Layout.{offsets_of}
use Rattle.drawing.specs.Pieces.{spans}
use Rattle.drawing.specs.Round.{other_end}
use Rattle.region_table.specs.Table.{IsTableOf, Region, Table, begins_of}

-- a chord by its strand and its number on it
pub record ChordNo : Type 0 where
  pub strand : ℕ
  pub chord : ℕ

-- where a chord of a strand begins
abbrev pub begin_in : List (List ℕ) → ℕ → ℕ → ℕ
begin_in begins i c = slice_index (slice_index_or begins i []) c

-- the chord has an end at a number
pub record IsEnd (begins : List (List ℕ)) (mates : List ℕ) (x : ℕ) (c : ChordNo) : Type 0 where
  pub strand_in : c.strand < length begins
  pub chord_in : c.chord < length (slice_index_or begins c.strand [])
  pub ends_there : (begin_in begins c.strand c.chord ≡ x) ⊎ (slice_index mates (begin_in begins c.strand c.chord) ≡ x)

-- the chord that a table tells at a number
abbrev pub end_at : List ChordNo → ℕ → ChordNo
end_at ends x = slice_index_or ends x (record { strand = 0; chord = 0 })

-- a chord of a strand has both ends inside some numbers
abbrev pub IsInside : List (List ℕ) → List ℕ → ℕ → ℕ → Type 0
IsInside begins mates i c = (begin_in begins i c < length mates) × (slice_index mates (begin_in begins i c) < length mates)

-- the table tells right at both ends of a chord of a strand
abbrev pub IsNoted : List (List ℕ) → List ℕ → List ChordNo → ℕ → ℕ → Type 0
IsNoted begins mates ends i c =
    IsEnd begins mates (begin_in begins i c) (end_at ends (begin_in begins i c))
    × IsEnd begins mates (slice_index mates (begin_in begins i c)) (end_at ends (slice_index mates (begin_in begins i c)))

-- and of all chords
abbrev pub KnowsEnds : List (List ℕ) → List ℕ → List ChordNo → Type 0
KnowsEnds begins mates ends = (i c : ℕ) → i < length begins → c < length (slice_index_or begins i []) → IsNoted begins mates ends i c

-- what of a table is read off the chords of a drawing
pub record IsFrameOf (d : Drawing) (starts mates : List ℕ) (begins : List (List ℕ)) (ends : List ChordNo) : Type 0 where
  pub starts_are : starts ≡ offsets_of d
  pub mates_are : mates ≡ map (other_end (chords d)) (spans d)
  pub begins_are : begins ≡ begins_of d
  pub as_many : length ends ≡ length mates
  pub known : KnowsEnds begins mates ends

-- a table that code keeps: some drawing has it, a small one, and the chord that ends at each number is known
pub record IsKept (t : Table) (ends : List ChordNo) : Type 0 where
  pub drawing : Drawing
  pub embedded : IsEmbedded drawing
  pub few_sides : sides drawing.polygon ≤ 16
  pub few : length (all_exits drawing) < 2 ^ 28
  pub table : IsTableOf drawing t
  pub as_many : length ends ≡ length t.mates
  pub known : KnowsEnds t.begins t.mates ends

-- the table of some lists, with room for some fingers
abbrev pub shown : Polygon → List ℕ → List ℕ → List ℕ → List (List ℕ) → List Region → List ℕ → ℕ → Table
shown polygon starts names mates begins regions inner room = record { polygon = polygon; starts = starts; names = names; mates = mates; begins = begins; regions = regions; inner = inner; room = room }
