-- What a run owes.
use Rattle.std.specs.Prelude.{◌≡◌, ◌⊎◌, ℕ, ◌+◌, ◌≤◌, List, [], ◌∷◌, length, codes, Bool, true, false, Option, Some, None, Result, Ok, Err}
use Rattle.std.specs.Io.KnownBytes.{Consumes, IsAtEnd}
use Rattle.curve_paths.specs.declared.twist.TooLong.{TooLong}
use Rattle.handle_slide.specs.declared.refusal.RefusedSlide.{RefusedSlide}
use Rattle.handle_slide.specs.declared.slid.Slid.{Slid}
use Rattle.witness_check.specs.Checked.{checked}
use Rattle.witness_check.specs.OpenBook.{surface_of}
use Rattle.witness_check.specs.Text.{certificate_text}
use Rattle.obd_doc.specs.Document.{book_read, curve_names, refusal_of}
use Rattle.obd_doc.specs.declared.book.Book.{Book}
use Rattle.obd_doc.specs.declared.refusal.DocRefusal.{DocRefusal}
use Rattle.obd_cli.specs.CheckAnswer.{check_answer}
use Rattle.obd_cli.specs.Decisions.{Tells, refused_with}
use Rattle.obd_cli.specs.Opened.{open_book}
use Rattle.obd_cli.specs.Refused.{doc_line, refused_line, slide_line}
use Rattle.obd_cli.specs.Sample.{sample_book, summary}
use Rattle.obd_cli.specs.Words.{book_words, long_line, words_text}
use Rattle.obd_cli.specs.declared.status.Answer.{Answer}
use Rattle.obd_cli.specs.declared.status.Command.{Command}
use Rattle.obd_cli.specs.declared.status.Command.TheVariants as command
use Rattle.obd_cli.specs.declared.status.Status.{Status}
use Rattle.obd_cli.specs.declared.status.Status.TheVariants as status
use Rattle.obd_cli.specs.declared.status.Wanted.{Wanted}
use Rattle.obd_cli.specs.declared.status.Wanted.TheVariants as wanted

-- the command reads from the source
abbrev pub reads : Option Command → Bool
reads (Some command.Decide) = true
reads (Some command.Page) = true
reads (Some command.Check) = true
reads (Some (command.Sample seed twists)) = false
reads None = false

-- the greatest number of bytes that a command reads
abbrev pub most_bytes : Command → ℕ
most_bytes command.Decide = 1048576
most_bytes command.Page = 1048576
most_bytes command.Check = 8388608
most_bytes (command.Sample seed twists) = 0

-- the usage line
abbrev pub usage : Answer
usage = record { status = status.Usage; text = codes "usage: obd decide | page | check | sample SEED TWISTS\n" }

-- the line of more bytes than a limit
abbrev pub too_long : ℕ → Answer
too_long most = refused_with (refused_line 1 (codes "InputLong") [] (most ∷ []))

-- the answer of `page`: the words, or the line of those that are too long
abbrev pub page_answer : Book → Slid → Result (List (List ℕ)) TooLong → Answer
page_answer book s (Ok words) = record { status = status.Done; text = words_text book s words }
page_answer book s (Err long) = refused_with (long_line long)

-- the answer to a book, by the surface that its slides leave; else the line of the first slide that is refused
abbrev pub AnswersSurface : Wanted → Book → Result Slid RefusedSlide → Answer → Type 0
AnswersSurface what book (Err refused) answer = answer ≡ refused_with (slide_line (curve_names book) refused)
AnswersSurface wanted.Certificate book (Ok s) answer = Tells certificate_text book s answer
AnswersSurface wanted.Words book (Ok s) answer = answer ≡ page_answer book s (book_words book s)
AnswersSurface (wanted.Summary seed twists) book (Ok s) answer = Tells (summary seed twists) book s answer

abbrev pub AnswersBook : Wanted → Book → Answer → Type 0
AnswersBook what book answer = AnswersSurface what book (surface_of (open_book book)) answer

-- the answer to a document, by the first rule that fails and by the book
abbrev pub AnswersDoc : Wanted → Option DocRefusal → Option Book → Answer → Type 0
AnswersDoc what (Some refusal) book answer = answer ≡ refused_with (doc_line refusal)
AnswersDoc what None (Some book) answer = AnswersBook what book answer
AnswersDoc what None None answer = ⊥

-- the answer to the bytes of a document
abbrev pub AnswersDocument : Wanted → List ℕ → Answer → Type 0
AnswersDocument what bytes answer = AnswersDoc what (refusal_of bytes) (book_read bytes) answer

-- the answer to the bytes of a certificate
abbrev pub AnswersCertificate : List ℕ → Answer → Type 0
AnswersCertificate bytes answer = answer ≡ check_answer (checked bytes)

-- the answer of `sample`
abbrev pub AnswersSample : ℕ → ℕ → Answer → Type 0
AnswersSample seed twists answer = AnswersBook (wanted.Summary seed twists) (sample_book seed twists) answer

-- the source gave all its bytes, within a limit, and this is the answer to them
pub record AnswersAll (most : ℕ) (Answers : List ℕ → Answer → Type 0) (left now_left : Option (List ℕ)) (answer : Answer) : Type 0 where
  pub bytes : List ℕ
  pub gave : Consumes left now_left bytes
  pub ended : IsAtEnd now_left
  pub within : length bytes ≤ most
  pub answers : Answers bytes answer

-- one byte more than a limit was read
pub record AnswersLong (most : ℕ) (left now_left : Option (List ℕ)) (answer : Answer) : Type 0 where
  pub bytes : List ℕ
  pub gave : Consumes left now_left bytes
  pub size : length bytes ≡ most + 1
  pub answers : answer ≡ too_long most

-- the answer to what was read
abbrev pub AnswersRead : ℕ → (List ℕ → Answer → Type 0) → Option (List ℕ) → Option (List ℕ) → Answer → Type 0
AnswersRead most Answers left now_left answer = AnswersAll most Answers left now_left answer ⊎ AnswersLong most left now_left answer

-- what is owed: the usage line for words that are no command, else the answer to what was read; and for a sample its own
abbrev pub Owes : Option Command → Option (List ℕ) → Option (List ℕ) → Answer → Type 0
Owes None left now_left answer = answer ≡ usage
Owes (Some command.Decide) left now_left answer = AnswersRead (most_bytes command.Decide) (AnswersDocument wanted.Certificate) left now_left answer
Owes (Some command.Page) left now_left answer = AnswersRead (most_bytes command.Page) (AnswersDocument wanted.Words) left now_left answer
Owes (Some command.Check) left now_left answer = AnswersRead (most_bytes command.Check) AnswersCertificate left now_left answer
Owes (Some (command.Sample seed twists)) left now_left answer = AnswersSample seed twists answer × (now_left ≡ left)

-- a status with a text of its own that a run may end with
abbrev pub has_text : Status → Bool
has_text status.Done = true
has_text status.Usage = true
has_text status.Refused = true
has_text status.Bad = true
has_text status.ReadFault = false
has_text status.WriteFault = false
has_text status.GeneratorLimit = true
has_text status.MoveBudget = true
has_text status.NoMemory = false
