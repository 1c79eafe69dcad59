-- What is kept of a drawing.
use Rattle.std.specs.Prelude.{◌≡◌, ℕ, ◌+◌, ◌*◌, ◌<◌, ◌≤◌, ◌^◌, Bool, List, length}
use Rattle.page_surface.specs.Drawing.{Drawing, IsEmbedded, all_exits}
use Rattle.drawing.specs.Pieces.{span_count}
use Rattle.drawing.specs.Strands.{IsStrandTable}

-- an embedded drawing of fewer than 2^28 points, with the number of its points, the strand at each of them, and room for
-- what is taken out and for new places. Each finger that there is room for puts in two points, and each of them takes two
-- numbers of the place order; 'spare' more strands can be put into their table.
pub record IsKept (d : Drawing) (room points : ℕ) (strands_at : List ℕ) (spare : ℕ) (gone : List Bool) (places : List ℕ) : Type 0 where
  pub embedded : IsEmbedded d
  pub few : length (all_exits d) + 2 * room < 2 ^ 28
  pub points_are : points ≡ length (all_exits d)
  pub strands_are : IsStrandTable d strands_at
  pub strands_room : 4 * room ≤ spare
  pub gone_room : span_count d + 4 * room ≤ length gone
  pub places_room : span_count d + 4 * room ≤ length places
