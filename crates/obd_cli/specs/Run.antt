-- What is known of a run.
use Rattle.std.specs.Prelude.{◌≡◌, ◌⊎◌, ℕ, ◌+◌, ◌≤◌, List, length, nat_lt, if◌then◌else◌, Option, Some, None, Result, Ok, Err}
use Rattle.std.specs.Io.KnownBytes.{Consumes, Appends, IsAtEnd}
use Rattle.obd_base.specs.Streams.{TookPrefix}
use Rattle.curve_paths.specs.declared.twist.TooLong.{TooLong}
use Rattle.drawing.specs.Points.{generators}
use Rattle.nice_plan.specs.Strategy.{strategy}
use Rattle.handle_slide.specs.declared.refusal.RefusedSlide.{RefusedSlide}
use Rattle.handle_slide.specs.declared.slid.Slid.{Slid}
use Rattle.witness_check.specs.Checked.{answer_of, checked}
use Rattle.witness_check.specs.OpenBook.{IsSurface, surface_of}
use Rattle.witness_check.specs.Text.{certificate_text}
use Rattle.witness_check.specs.declared.certificate.Certificate.{Certificate}
use Rattle.witness_check.specs.declared.checked.Answer.{Answer as Found}
use Rattle.witness_check.specs.declared.checked.Checked.TheVariants.{Bad, Valid}
use Rattle.witness_check.specs.declared.checked.Reason.{Reason}
use Rattle.obd_doc.specs.Document.{book_read}
use Rattle.obd_doc.specs.declared.book.Book.{Book}
use Rattle.obd_cli.specs.Answers.{Owes, most_bytes, page_answer}
use Rattle.obd_cli.specs.CheckAnswer.{bad_line, check_answer, valid_line}
use Rattle.obd_cli.specs.Decisions.{drawing_of, stopped}
use Rattle.obd_cli.specs.Opened.{open_book}
use Rattle.obd_cli.specs.Refused.{budget_line, limit_line}
use Rattle.obd_cli.specs.Sample.{sample_book, summary}
use Rattle.obd_cli.specs.Steps.{IsCertificateOf, IsOverBudget, IsOverLimit, last_of}
use Rattle.obd_cli.specs.Words.{book_words, words_text}
use Rattle.obd_cli.specs.declared.status.Answer.{Answer}
use Rattle.obd_cli.specs.declared.status.Command.{Command}
use Rattle.obd_cli.specs.declared.status.Command.TheVariants as command
use Rattle.obd_cli.specs.declared.status.Status.{Status}
use Rattle.obd_cli.specs.declared.status.Status.TheVariants as status
use Rattle.obd_cli.specs.declared.status.Wanted.{Wanted}
use Rattle.obd_cli.specs.declared.status.Wanted.TheVariants as wanted

-- the text that is owed was written, and the status is the one that goes with it
pub record Told (command : Option Command) (left now_left written now_written : Option (List ℕ)) (status : Status) : Type 0 where
  pub answer : Answer
  pub same : answer.status ≡ status
  pub owed : Owes command left now_left answer
  pub wrote : Appends written now_written answer.text

-- a prefix of the text that is owed was written
pub record CutShort (command : Option Command) (left now_left written now_written : Option (List ℕ)) : Type 0 where
  pub answer : Answer
  pub owed : Owes command left now_left answer
  pub wrote : TookPrefix written now_written answer.text

-- the source was read to its end, and the text of a certificate that belongs to the book of its bytes was written, which a check
-- finds valid, with the same answer
pub record Decided (left now_left written now_written : Option (List ℕ)) : Type 0 where
  pub bytes : List ℕ
  pub gave : Consumes left now_left bytes
  pub ended : IsAtEnd now_left
  pub book : Book
  pub read : book_read bytes ≡ Some book
  pub certificate : Certificate
  pub belongs : IsCertificateOf book certificate
  pub valid : checked (certificate_text certificate) ≡ Valid (answer_of certificate.verdict)
  pub wrote : Appends written now_written (certificate_text certificate)

-- the source was read to its end, and the words of the book of its bytes were written
pub record Paged (left now_left written now_written : Option (List ℕ)) : Type 0 where
  pub bytes : List ℕ
  pub gave : Consumes left now_left bytes
  pub ended : IsAtEnd now_left
  pub book : Book
  pub read : book_read bytes ≡ Some book
  pub surface : Slid
  pub surface_is : IsSurface (open_book book) surface
  pub words : List (List ℕ)
  pub words_are : book_words book surface ≡ Ok words
  pub wrote : Appends written now_written (words_text book surface words)

-- the source was read to its end, and its bytes are a valid certificate; the line that says so, with its answer, was written
pub record Judged (left now_left written now_written : Option (List ℕ)) : Type 0 where
  pub bytes : List ℕ
  pub gave : Consumes left now_left bytes
  pub ended : IsAtEnd now_left
  pub answer : Found
  pub valid : checked bytes ≡ Valid answer
  pub wrote : Appends written now_written (valid_line answer)

-- nothing was read, and the summary of a certificate that belongs to the sample's book, and that a check finds valid with the same
-- answer, was written
pub record Sampled (seed twists : ℕ) (left now_left written now_written : Option (List ℕ)) : Type 0 where
  pub unread : now_left ≡ left
  pub certificate : Certificate
  pub belongs : IsCertificateOf (sample_book seed twists) certificate
  pub valid : checked (certificate_text certificate) ≡ Valid (answer_of certificate.verdict)
  pub wrote : Appends written now_written (summary seed twists certificate)

-- what Done says for a command
abbrev pub Finished : Option Command → Option (List ℕ) → Option (List ℕ) → Option (List ℕ) → Option (List ℕ) → Type 0
Finished (Some command.Decide) left now_left written now_written = Decided left now_left written now_written
Finished (Some command.Page) left now_left written now_written = Paged left now_left written now_written
Finished (Some command.Check) left now_left written now_written = Judged left now_left written now_written
Finished (Some (command.Sample seed twists)) left now_left written now_written = Sampled seed twists left now_left written now_written
Finished None left now_left written now_written = ⊥

-- the command is `check`, the source was read to its end, and its bytes are bad at this line for this reason; the line that says
-- so was written
pub record Rejected (which : Option Command) (left now_left written now_written : Option (List ℕ)) : Type 0 where
  pub checks : which ≡ Some command.Check
  pub bytes : List ℕ
  pub gave : Consumes left now_left bytes
  pub ended : IsAtEnd now_left
  pub line : ℕ
  pub reason : Reason
  pub bad : checked bytes ≡ Bad line reason
  pub wrote : Appends written now_written (bad_line line reason)

-- the source was read to its end, and its bytes are those of the book
pub record ReadBook (left now_left : Option (List ℕ)) (book : Book) : Type 0 where
  pub bytes : List ℕ
  pub gave : Consumes left now_left bytes
  pub ended : IsAtEnd now_left
  pub read : book_read bytes ≡ Some book

-- the book of which a certificate is wanted: with `decide` the one that was read, with `sample` the sample's, and nothing was read
abbrev pub Decides : Option Command → Option (List ℕ) → Option (List ℕ) → Book → Type 0
Decides (Some command.Decide) left now_left book = ReadBook left now_left book
Decides (Some (command.Sample seed twists)) left now_left book = (book ≡ sample_book seed twists) × (now_left ≡ left)
Decides (Some command.Page) left now_left book = ⊥
Decides (Some command.Check) left now_left book = ⊥
Decides None left now_left book = ⊥

-- the book of which a certificate is wanted goes beyond a limit in this sense, and the line that says so was written
pub record Limited (Goes : Book → List ℕ → Type 0) (which : Option Command) (left now_left written now_written : Option (List ℕ)) : Type 0 where
  pub book : Book
  pub decides : Decides which left now_left book
  pub line : List ℕ
  pub goes : Goes book line
  pub wrote : Appends written now_written line

-- the book's last drawing has more generators than its limit, with the line that says so
abbrev pub GoesOverLimit : Book → List ℕ → Type 0
GoesOverLimit book line = IsOverLimit book × (line ≡ limit_line (book.limits.generators + 1))

-- the strategy takes more fingers than the book's limit, with the line that says so
abbrev pub GoesOverBudget : Book → List ℕ → Type 0
GoesOverBudget book line = (left : ℕ) × IsOverBudget book left × (line ≡ budget_line book.limits.moves left)

-- a device failed, or memory was wanting
abbrev pub IsFault : Status → Type 0
IsFault result = (result ≡ status.ReadFault) ⊎ (result ≡ status.WriteFault) ⊎ (result ≡ status.NoMemory)

-- the status of what stands in place of a certificate, and of a certificate
abbrev pub drawing_status : Option Answer → Status
drawing_status (Some other) = other.status
drawing_status None = status.Done

-- the status of the answer of `decide`
abbrev pub words_status : Book → Slid → Result (List (List ℕ)) TooLong → Status
words_status book s (Err long) = status.Refused
words_status book s (Ok words) = drawing_status (stopped book.limits (drawing_of s words))

-- the status of what is decided of a book on a surface; with Done it keeps both limits, and with a limit's status it goes beyond
-- that one
pub record IsDecisionStatus (book : Book) (s : Slid) (result : Status) : Type 0 where
  pub by_words : result ≡ words_status book s (book_words book s)
  pub keeps_limit : result ≡ status.Done → IsOverLimit book → ⊥
  pub keeps_budget : result ≡ status.Done → (left : ℕ) → IsOverBudget book left → ⊥
  pub over_limit : result ≡ status.GeneratorLimit → IsOverLimit book
  pub over_budget : result ≡ status.MoveBudget → (left : ℕ) × IsOverBudget book left

-- the status of the answer to a book
abbrev pub HasBookStatus : Wanted → Book → Result Slid RefusedSlide → Status → Type 0
HasBookStatus what book (Err refused) result = result ≡ status.Refused
HasBookStatus wanted.Certificate book (Ok s) result = IsDecisionStatus book s result
HasBookStatus wanted.Words book (Ok s) result = result ≡ (page_answer book s (book_words book s)).status
HasBookStatus (wanted.Summary seed twists) book (Ok s) result = IsDecisionStatus book s result

-- the book of bytes that aren't too many
abbrev pub book_within : List ℕ → Option Book
book_within bytes = if nat_lt (most_bytes command.Decide) (length bytes) then None else book_read bytes

-- the book's slides are accepted, its words aren't too long, and its drawings keep both limits
pub record IsWithin (book : Book) : Type 0 where
  pub surface : Slid
  pub surface_is : IsSurface (open_book book) surface
  pub words : List (List ℕ)
  pub words_are : book_words book surface ≡ Ok words
  pub moves : length (strategy (drawing_of surface words)) ≤ book.limits.moves
  pub generators_few : length (generators (last_of (drawing_of surface words))) ≤ book.limits.generators

-- the status of the answer to what was read
abbrev pub HasReadStatus : Wanted → Option Book → Status → Type 0
HasReadStatus what None result = result ≡ status.Refused
HasReadStatus what (Some book) result = HasBookStatus what book (surface_of (open_book book)) result

-- the status of the answer to the bytes of a certificate, if they aren't too many
abbrev pub check_status : List ℕ → Status
check_status bytes = if nat_lt (most_bytes command.Check) (length bytes) then status.Refused else (check_answer (checked bytes)).status

-- the status of the answer of `sample`
abbrev pub HasSampleStatus : ℕ → ℕ → Status → Type 0
HasSampleStatus seed twists result = HasReadStatus (wanted.Summary seed twists) (Some (sample_book seed twists)) result

-- the status of the answer of a command where the source holds these bytes
abbrev pub HasStatus : Command → List ℕ → Status → Type 0
HasStatus command.Decide bytes result = HasReadStatus wanted.Certificate (book_within bytes) result
HasStatus command.Page bytes result = HasReadStatus wanted.Words (book_within bytes) result
HasStatus command.Check bytes result = result ≡ check_status bytes
HasStatus (command.Sample seed twists) bytes result = HasSampleStatus seed twists result
