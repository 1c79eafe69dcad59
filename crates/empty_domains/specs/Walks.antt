-- The tables by which the domains of a drawing are walked.
use Rattle.std.specs.Prelude.{◌≡◌, ℕ, List}
use Rattle.page_surface.specs.Drawing.{Drawing}
use Rattle.drawing.specs.Layout.{offsets_of}
use Rattle.drawing.specs.Pieces.{piece_table}
use Rattle.empty_domains.specs.Ground.{Ground, IsGround}

-- the tables by which strips are walked, where sides begin in the place order, and the first span of the piece of each span
pub record WalkTables : Type 0 where
  pub tables : Ground
  pub starts : List ℕ
  pub pieces : List ℕ

-- those of a drawing
pub record AreWalksOf (d : Drawing) (w : WalkTables) : Type 0 where
  pub tables_are : IsGround d w.tables
  pub starts_are : w.starts ≡ offsets_of d
  pub pieces_are : w.pieces ≡ piece_table d
