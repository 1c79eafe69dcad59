-- What is decided of a book, and what is told of it.
use Rattle.std.specs.Prelude.{◌≡◌, ℕ, ◌+◌, List, length, nat_lt, if◌then◌else◌, Option, Some, None, Result, Ok, Err}
use Rattle.page_surface.specs.Drawing.{Drawing}
use Rattle.curve_paths.specs.declared.twist.TooLong.{TooLong}
use Rattle.drawing.specs.Fingers.{replayed}
use Rattle.drawing.specs.Points.{generators}
use Rattle.drawing.specs.Tight.{tight_drawing}
use Rattle.region_table.specs.Nice.{weight}
use Rattle.nice_plan.specs.Strategy.{strategy, within_limit}
use Rattle.handle_slide.specs.declared.slid.Slid.{Slid}
use Rattle.witness_check.specs.Belonging.{IsFirstDrawing}
use Rattle.witness_check.specs.declared.certificate.Certificate.{Certificate}
use Rattle.obd_doc.specs.declared.book.Book.{Book}
use Rattle.obd_doc.specs.declared.limits.Limits.{Limits}
use Rattle.obd_cli.specs.Opened.{open_book}
use Rattle.obd_cli.specs.Refused.{budget_line, limit_line}
use Rattle.obd_cli.specs.Steps.{IsCertificateOf, last_of}
use Rattle.obd_cli.specs.Words.{book_words, long_line}
use Rattle.obd_cli.specs.declared.decide.Decision.{Decision}
use Rattle.obd_cli.specs.declared.decide.Decision.TheVariants.{Certified, Stopped}
use Rattle.obd_cli.specs.declared.status.Answer.{Answer}
use Rattle.obd_cli.specs.declared.status.Status.TheVariants as status

-- a refusal with its line
abbrev pub refused_with : List ℕ → Answer
refused_with text = record { status = status.Refused; text = text }

-- the answers in place of a certificate: to more fingers than a limit, by the limit and the weight that is left,
abbrev pub over_budget : ℕ → ℕ → Answer
over_budget limit left = record { status = status.MoveBudget; text = budget_line limit left }

-- and to more generators than a limit, by the limit and one
abbrev pub over_limit : ℕ → Answer
over_limit over = record { status = status.GeneratorLimit; text = limit_line over }

-- what stands in place of the certificate of a last drawing, if something does
abbrev pub stopped_last : ℕ → Drawing → Option Answer
stopped_last limit last =
    if nat_lt limit (length (generators last)) then Some (over_limit (limit + 1)) else None

-- and of a first drawing
abbrev pub stopped : Limits → Drawing → Option Answer
stopped limits d =
    if nat_lt limits.moves (length (strategy d)) then Some (over_budget limits.moves (weight (replayed d (within_limit limits.moves d)))) else
    stopped_last limits.generators (last_of d)

-- the drawing of words on a surface
abbrev pub drawing_of : Slid → List (List ℕ) → Drawing
drawing_of s words = tight_drawing s.polygon words

-- what is decided of a first drawing: what stands in place of a certificate, else a certificate of the book
abbrev pub DecidesDrawing : Book → Option Answer → Decision → Type 0
DecidesDrawing book (Some other) decision = decision ≡ Stopped other
DecidesDrawing book None decision = (c : Certificate) × IsCertificateOf book c × (decision ≡ Certified c)

-- what is decided of the book: that its words are too long, or what is decided of their drawing, the book's first one
abbrev pub DecidesWords : Book → Slid → Result (List (List ℕ)) TooLong → Decision → Type 0
DecidesWords book s (Err long) decision = decision ≡ Stopped (refused_with (long_line long))
DecidesWords book s (Ok words) decision =
    IsFirstDrawing (open_book book) s (drawing_of s words) × DecidesDrawing book (stopped book.limits (drawing_of s words)) decision

-- the answer that tells a decision, where a certificate has a text
abbrev pub told_by : (Certificate → List ℕ) → Decision → Answer
told_by text (Certified c) = record { status = status.Done; text = text c }
told_by text (Stopped answer) = answer

-- an answer tells what is decided of the book, a certificate by its text
pub record Tells (text : Certificate → List ℕ) (book : Book) (s : Slid) (answer : Answer) : Type 0 where
  pub decision : Decision
  pub decided : DecidesWords book s (book_words book s) decision
  pub told : answer ≡ told_by text decision
