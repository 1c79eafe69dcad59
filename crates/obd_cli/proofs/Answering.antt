-- The answers that tell what is decided of a book, by what stands in place of a certificate.
use Rattle.std.proofs.Common.{◌≡◌, ℕ, List, Option, None, Some, Result, Ok, Err, refl, sym, ap, subst}
use Rattle.curve_paths.specs.declared.twist.TooLong.{TooLong}
use Rattle.handle_slide.specs.declared.slid.Slid.{Slid}
use Rattle.witness_check.specs.Belonging.{IsFirstDrawing}
use Rattle.witness_check.specs.declared.certificate.Certificate.{Certificate}
use Rattle.obd_doc.specs.declared.book.Book.{Book}
use Rattle.obd_cli.specs.Decisions.{DecidesDrawing, DecidesWords, Tells, drawing_of, refused_with, stopped, told_by}
use Rattle.obd_cli.specs.Opened.{open_book}
use Rattle.obd_cli.specs.Steps.{IsCertificateOf}
use Rattle.obd_cli.specs.Words.{book_words, long_line}
use Rattle.obd_cli.specs.declared.decide.Decision.{Decision}
use Rattle.obd_cli.specs.declared.decide.Decision.TheVariants.{Certified}
use Rattle.obd_cli.specs.declared.status.Answer.{Answer}
use Rattle.obd_cli.specs.declared.status.Status.TheVariants as status

-- the answer is the text of a certificate that belongs to the book
pub record Certifies (tells : Certificate → List ℕ) (book : Book) (answer : Answer) : Type 0 where
  pub done : answer.status ≡ status.Done
  pub certificate : Certificate
  pub belongs : IsCertificateOf book certificate
  pub text : answer.text ≡ tells certificate

-- the answer to a first drawing: what stands in place of a certificate, else a certificate
abbrev pub AnswersDrawing : (Certificate → List ℕ) → Book → Option Answer → Answer → Type 0
AnswersDrawing tells book (Some other) answer = answer ≡ other
AnswersDrawing tells book None answer = Certifies tells book answer

-- the line of words that are too long, or the answer to their drawing, the book's first one
abbrev pub AnswersWords : (Certificate → List ℕ) → Book → Slid → Result (List (List ℕ)) TooLong → Answer → Type 0
AnswersWords tells book s (Err long) answer = answer ≡ refused_with (long_line long)
AnswersWords tells book s (Ok words) answer =
    IsFirstDrawing (open_book book) s (drawing_of s words) × AnswersDrawing tells book (stopped book.limits (drawing_of s words)) answer

module _ (tells : Certificate → List ℕ) (book : Book) where
  certificate_told : (d : Decision) (c : Certificate) → IsCertificateOf book c → d ≡ Certified c → Certifies tells book (told_by tells d)
  certificate_told d c belongs is = subst (λ (e : Decision). Certifies tells book (told_by tells e)) (sym is) (record {
    done = refl;
    certificate = c;
    belongs = belongs;
    text = refl;
  })

  drawing_told : (other : Option Answer) (d : Decision) → DecidesDrawing book other d → AnswersDrawing tells book other (told_by tells d)
  drawing_told (Some other) d is = ap (told_by tells) is
  drawing_told None d (c, belongs, is) = certificate_told d c belongs is

  words_told : (s : Slid) (found : Result (List (List ℕ)) TooLong) (d : Decision) → DecidesWords book s found d → AnswersWords tells book s found (told_by tells d)
  words_told s (Err long) d is = ap (told_by tells) is
  words_told s (Ok words) d (first, decides) = (first, drawing_told (stopped book.limits (drawing_of s words)) d decides)

  -- what tells a decision answers the book's words
  pub tells_answers : (s : Slid) (answer : Answer) → Tells tells book s answer → AnswersWords tells book s (book_words book s) answer
  tells_answers s answer t = subst (AnswersWords tells book s (book_words book s)) (sym t.told) (words_told s (book_words book s) t.decision t.decided)
