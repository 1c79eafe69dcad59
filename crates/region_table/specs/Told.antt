-- What is told of the pieces by their names, as code keeps it in lists.
use Rattle.std.specs.Prelude.{◌≡◌, ℕ, ◌+◌, ◌*◌, ◌<◌, ◌≤◌, ◌^◌, Bool, true, false, List, Vec, length, map, slice_index, vec_capacity, vec_len}
use Rattle.std.specs.Global.{Global}
use Rattle.page_surface.specs.Drawing.{Drawing, IsEmbedded, chords}
use Rattle.drawing.specs.Pieces.{distance, is_base, span_count, spans}
use Rattle.drawing.specs.Round.{other_end}
use Rattle.region_table.specs.Counted.{first_so_far, has_gap, size_so_far}
use Rattle.region_table.specs.Naming.{IsNaming}
use Rattle.region_table.specs.Table.{Region, region_in}

-- the pieces by their names, and for how many fingers there is room
pub record Told : Type 0 where
  pub regions : List Region
  pub room : ℕ

-- four lists of one length, with room for two pieces more for each finger
pub record HoldPieces (bases : Vec Bool Global) (firsts sizes distances : Vec ℕ Global) (room : ℕ) : Type 0 where
  pub as_many_firsts : length firsts.items ≡ length bases.items
  pub as_many_sizes : length sizes.items ≡ length bases.items
  pub as_many_distances : length distances.items ≡ length bases.items
  pub bases_room : vec_len bases + 2 * room ≤ vec_capacity bases
  pub firsts_room : vec_len firsts + 2 * room ≤ vec_capacity firsts
  pub sizes_room : vec_len sizes + 2 * room ≤ vec_capacity sizes
  pub distances_room : vec_len distances + 2 * room ≤ vec_capacity distances

-- all but distances is counted by names; a name that is no span's has no first span
pub record AreSeen (d : Drawing) (name : ℕ → ℕ) (regions : List Region) : Type 0 where
  pub base : (p : ℕ) → p < length regions → (region_in regions p).base ≡ has_gap d name p
  pub first : (p : ℕ) → p < length regions → 0 < size_so_far name (span_count d) p → (region_in regions p).first ≡ first_so_far name (span_count d) p
  pub size : (p : ℕ) → p < length regions → (region_in regions p).size ≡ size_so_far name (span_count d) p

-- sizes and first spans are counted by names, and all else stays; a name that is no span's has no first span
pub record AreSized (name : ℕ → ℕ) (n : ℕ) (before after : List Region) : Type 0 where
  pub count : length after ≡ length before
  pub first : (p : ℕ) → p < length after → 0 < size_so_far name n p → (region_in after p).first ≡ first_so_far name n p
  pub size : (p : ℕ) → p < length after → (region_in after p).size ≡ size_so_far name n p
  pub base : (p : ℕ) → (region_in after p).base ≡ (region_in before p).base
  pub distance : (p : ℕ) → (region_in after p).distance ≡ (region_in before p).distance

-- the names and chords by which distances are measured, and labels before it: 0 for base pieces, and a bound for others
pub record IsUnmeasured (d : Drawing) (names mates labels : List ℕ) (bound : ℕ) : Type 0 where
  pub embedded : IsEmbedded d
  pub mates_are : mates ≡ map (other_end (chords d)) (spans d)
  pub few : span_count d < 2 ^ 30
  pub named : length names ≡ span_count d
  pub naming : IsNaming d (λ s. slice_index names s)
  pub told : (s : ℕ) → s < span_count d → slice_index names s < length labels
  pub high : length (chords d) < bound
  pub bases : (s : ℕ) → s < span_count d → is_base d s ≡ true → slice_index labels (slice_index names s) ≡ 0
  pub others : (s : ℕ) → s < span_count d → is_base d s ≡ false → slice_index labels (slice_index names s) ≡ bound

-- the distances by names
abbrev pub AreMeasured : Drawing → List ℕ → List ℕ → Type 0
AreMeasured d names labels = (s : ℕ) → s < span_count d → slice_index labels (slice_index names s) ≡ distance d s

-- the names and chords of a drawing, and which of its pieces are base
pub record HasNames (d : Drawing) (names mates : List ℕ) (regions : List Region) : Type 0 where
  pub embedded : IsEmbedded d
  pub mates_are : mates ≡ map (other_end (chords d)) (spans d)
  pub few : span_count d < 2 ^ 30
  pub named : length names ≡ span_count d
  pub naming : IsNaming d (λ s. slice_index names s)
  pub told : (s : ℕ) → s < span_count d → slice_index names s < length regions
  pub high : length (chords d) < length regions
  pub base : (s : ℕ) → s < span_count d → (region_in regions (slice_index names s)).base ≡ is_base d s
