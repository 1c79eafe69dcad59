-- What each step of a run makes of a book.
use Rattle.std.specs.Prelude.{◌≡◌, ℕ, ◌<◌, ◌≤◌, length, All, IfSome}
use Rattle.page_surface.specs.Drawing.{Drawing}
use Rattle.page_surface.specs.Joining.{joined}
use Rattle.curve_paths.specs.Curves.{IsCurve}
use Rattle.drawing.specs.Fingers.{replayed}
use Rattle.drawing.specs.Points.{contact_generator, generators}
use Rattle.region_table.specs.Nice.{weight}
use Rattle.nice_plan.specs.Strategy.{strategy, within_limit}
use Rattle.handle_slide.specs.declared.slid.Slid.{Slid}
use Rattle.hkm_diagram.specs.Domains.{columns}
use Rattle.mod2_rank.specs.Linear.{IsOutcomeOf}
use Rattle.witness_check.specs.Belonging.{BelongsTo, IsFirstDrawing, LeadTo}
use Rattle.witness_check.specs.OpenBook.{IsSurface, arcs, seam_names}
use Rattle.witness_check.specs.declared.certificate.Certificate.{Certificate}
use Rattle.obd_doc.specs.declared.book.Book.{Book}
use Rattle.obd_cli.specs.Opened.{open_book, paths_of}
use Rattle.obd_cli.specs.declared.certify.LastLines.{LastLines}
use Rattle.obd_cli.specs.declared.certify.PageLines.{PageLines}
use Rattle.obd_cli.specs.declared.complex.Complex.{Complex}
use Rattle.obd_cli.specs.declared.moves.Moved.{Moved}
use Rattle.obd_cli.specs.declared.surface.Surface.{Surface}

-- the surface of a book: its page joined, and the polygon and the curves that its slides leave
pub record IsSurfaceOf (book : Book) (s : Surface) : Type 0 where
  pub basis : s.basis ≡ joined book.page
  pub surface : IsSurface (open_book book) s.slid
  pub curves : All (λ curve. IfSome curve (IsCurve s.slid.polygon)) s.slid.curves

-- the strands of the first drawing, and the strategy's fingers, which are legal and lead from it to a nice one
pub record IsMoved (first : Drawing) (m : Moved) : Type 0 where
  pub strands : m.strands ≡ first.strands
  pub planned : m.fingers ≡ strategy first
  pub leads : LeadTo first m.fingers m.last

-- the strands of the book's first drawing, and the fingers that lead from it to the last one
pub record AreDrawings (book : Book) (s : Surface) (m : Moved) : Type 0 where
  pub first : Drawing
  pub first_is : IsFirstDrawing (open_book book) s.slid first
  pub moved : IsMoved first m

-- the number of generators of a drawing, of which there is one at least and no more than the limit, and the outcome of its columns
pub record IsComplexOf (d : Drawing) (limit : ℕ) (complex : Complex) : Type 0 where
  pub count : complex.generators ≡ length (generators d)
  pub least : 1 ≤ complex.generators
  pub within : complex.generators ≤ limit
  pub concludes : IsOutcomeOf complex.generators (columns d) complex.outcome
  pub rank : complex.outcome.rank ≤ complex.generators

-- the lines of the page are the book's and the surface's
pub record ArePageLines (book : Book) (s : Surface) (lines : PageLines) : Type 0 where
  pub polygons : lines.polygons ≡ book.page
  pub curves : lines.curves ≡ paths_of book.curves
  pub seams : lines.seams ≡ seam_names book.page
  pub basis : lines.basis ≡ arcs s.slid.polygon

-- the lines of the last drawing are a drawing's
pub record AreLastLines (d : Drawing) (lines : LastLines) : Type 0 where
  pub finals : lines.finals ≡ d.strands
  pub points : lines.points ≡ contact_generator d

-- the certificate belongs to the book, its fingers are the strategy's, and they and the generators are no more than the book's
-- limits
pub record IsCertificateOf (book : Book) (c : Certificate) : Type 0 where
  pub belongs : BelongsTo (open_book book) c
  pub planned : c.fingers ≡ strategy belongs.first
  pub moves : length c.fingers ≤ book.limits.moves
  pub within : c.generators ≤ book.limits.generators

-- the drawing that the strategy's fingers make of a first one
abbrev pub last_of : Drawing → Drawing
last_of first = replayed first (strategy first)

-- the strategy's fingers are no more than the book's limit, and the last drawing has more generators than the book's limit
pub record IsOverLimit (book : Book) : Type 0 where
  pub surface : Slid
  pub surface_is : IsSurface (open_book book) surface
  pub first : Drawing
  pub first_is : IsFirstDrawing (open_book book) surface first
  pub moves : length (strategy first) ≤ book.limits.moves
  pub over : book.limits.generators < length (generators (last_of first))

-- the strategy's fingers are more than the book's limit, and this weight is left after the bursts that fit whole; it isn't 0
pub record IsOverBudget (book : Book) (left : ℕ) : Type 0 where
  pub surface : Slid
  pub surface_is : IsSurface (open_book book) surface
  pub first : Drawing
  pub first_is : IsFirstDrawing (open_book book) surface first
  pub over : book.limits.moves < length (strategy first)
  pub left_is : left ≡ weight (replayed first (within_limit book.limits.moves first))
  pub some : 1 ≤ left
