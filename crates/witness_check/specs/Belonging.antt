-- The book that a certificate belongs to.
use Rattle.std.specs.Prelude.{◌≡◌, ℕ, pos, ◌-ℤ◌, ◌+◌, ◌*◌, ◌≤◌, List, [], length, slice_get, Some, Ok}
use Rattle.page_surface.specs.Drawing.{Drawing, IsEmbedded}
use Rattle.drawing.specs.Fingers.{AllLegal, replayed}
use Rattle.drawing.specs.Points.{contact_generator, generators}
use Rattle.drawing.specs.Tight.{IsTight, tight_drawing}
use Rattle.drawing.specs.declared.finger.Finger.{Finger}
use Rattle.region_table.specs.Nice.{IsNice}
use Rattle.hkm_diagram.specs.Domains.{columns}
use Rattle.handle_slide.specs.declared.slid.Slid.{Slid}
use Rattle.mod2_rank.specs.Linear.{Concludes, column_at}
use Rattle.witness_check.specs.OpenBook.{IsSurface, OpenBook, arcs, seam_names, words_on}
use Rattle.witness_check.specs.declared.certificate.Certificate.{Certificate}

-- the first drawing: the tight drawing of the words after the twist word, which is embedded
pub record IsFirstDrawing (book : OpenBook) (s : Slid) (d : Drawing) : Type 0 where
  pub words : List (List ℕ)
  pub words_are : words_on s book ≡ Ok words
  pub drawn : d ≡ tight_drawing s.polygon words
  pub embedded : IsEmbedded d
  pub tight : IsTight d

-- legal fingers lead from the first drawing to the last one, which is embedded and nice
pub record LeadTo (first : Drawing) (fingers : List Finger) (last : Drawing) : Type 0 where
  pub legal : AllLegal first fingers
  pub replayed_so : last ≡ replayed first fingers
  pub embedded : IsEmbedded last
  pub nice : IsNice last

-- every line is that of the book; the fingers are any legal ones that lead to a nice drawing
pub record BelongsTo (book : OpenBook) (c : Certificate) : Type 0 where
  pub version : c.version ≡ 1
  -- the book's polygons, curves, slides and twists
  pub polygons : c.polygons ≡ book.page
  pub curves : c.curves ≡ book.curves
  pub slides : c.slides ≡ book.slides
  pub twists : c.twists ≡ book.twists
  -- the polygon and the curves after all slides: the seams, and for each side its arc
  pub surface : Slid
  pub surface_is : IsSurface book surface
  pub seams : c.seams ≡ seam_names book.page
  pub basis : c.basis ≡ arcs surface.polygon
  -- the first drawing, and the last one, to which the fingers lead
  pub first : Drawing
  pub first_is : IsFirstDrawing book surface first
  pub strands : c.strands ≡ first.strands
  pub few_fingers : length c.fingers ≤ 20000
  pub last : Drawing
  pub last_is : LeadTo first c.fingers last
  pub finals : c.finals ≡ last.strands
  -- the number of generators of the last drawing, and its contact generator, which comes last and has an empty column
  pub generators_are : c.generators ≡ length (generators last)
  pub few_generators : c.generators ≤ 20000
  pub points : c.points ≡ contact_generator last
  pub contact : slice_get (generators last) c.contact ≡ Some c.points
  pub contact_last : c.contact + 1 ≡ c.generators
  pub contact_column : column_at (columns last) c.contact ≡ []
  -- what the elimination of its columns finds, and the number that is left
  pub concludes : Concludes c.generators (columns last) c.pivots c.rank c.verdict
  pub homology : c.homology ≡ pos c.generators -ℤ pos (2 * c.rank)
