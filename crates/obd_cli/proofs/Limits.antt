-- A run that ends with the status of a limit has read a book that goes beyond it.
use Rattle.std.proofs.Common.{◌≡◌, ℕ, List, Option, Some, None, Result, Ok, Err, inl, inr, refl, sym, ◌∙◌, ap}
use Rattle.std.specs.Io.KnownBytes.{Appends}
use Rattle.curve_paths.specs.declared.twist.TooLong.{TooLong}
use Rattle.obd_doc.specs.Document.{book_read, refusal_of}
use Rattle.obd_doc.specs.declared.book.Book.{Book}
use Rattle.obd_doc.specs.declared.refusal.DocRefusal.{DocRefusal}
use Rattle.obd_cli.specs.Answers.{AnswersDoc, AnswersSurface, Owes, page_answer}
use Rattle.obd_cli.specs.CheckAnswer.{check_answer}
use Rattle.obd_cli.specs.Run.{GoesOverBudget, GoesOverLimit, Limited, Told}
use Rattle.obd_cli.specs.Sample.{sample_book, summary}
use Rattle.witness_check.specs.Checked.{checked}
use Rattle.witness_check.specs.Text.{certificate_text}
use Rattle.witness_check.specs.declared.certificate.Certificate.{Certificate}
use Rattle.witness_check.specs.declared.checked.Checked.{Checked}
use Rattle.witness_check.specs.declared.checked.Checked.TheVariants.{Bad, Valid}
use Rattle.obd_cli.proofs.Answering.{AnswersWords, tells_answers}
use Rattle.obd_cli.specs.declared.status.Wanted.TheVariants as wanted
use Rattle.handle_slide.specs.declared.refusal.RefusedSlide.{RefusedSlide}
use Rattle.handle_slide.specs.declared.slid.Slid.{Slid}
use Rattle.witness_check.specs.OpenBook.{IsSurface, surface_of}
use Rattle.obd_cli.specs.Opened.{open_book}
use Rattle.obd_cli.specs.Words.{book_words}
use Rattle.obd_cli.proofs.OverLimit.{words_budget, words_limited}
use Rattle.obd_cli.specs.declared.status.Answer.{Answer}
use Rattle.obd_cli.specs.declared.status.Command.{Command}
use Rattle.obd_cli.specs.declared.status.Command.TheVariants as command
use Rattle.obd_cli.specs.declared.status.Status.{Status}
use Rattle.obd_cli.specs.declared.status.Status.TheVariants as status

-- a status that comes for words of a book that go beyond a limit, and is none of those of other answers
module _ (Goes : Book → List ℕ → Type 0) (ends : Status) (not_done : status.Done ≡ ends → ⊥) (not_bad : status.Bad ≡ ends → ⊥) (not_refused : status.Refused ≡ ends → ⊥) (not_usage : status.Usage ≡ ends → ⊥)
    (words_go : (tells : Certificate → List ℕ) (book : Book) (s : Slid) (found : Result (List (List ℕ)) TooLong) (answer : Answer) → IsSurface (open_book book) s → AnswersWords tells book s found answer → answer.status ≡ ends → Goes book answer.text) where
  -- the answer of `page` hasn't this status,
  page_stays : (book : Book) (s : Slid) (found : Result (List (List ℕ)) TooLong) → (page_answer book s found).status ≡ ends → ⊥
  page_stays book s (Ok words) is = not_done is
  page_stays book s (Err long) is = not_refused is

  -- nor has that of `check`
  check_stays : (said : Checked) → (check_answer said).status ≡ ends → ⊥
  check_stays (Valid answer) is = not_done is
  check_stays (Bad line reason) is = not_bad is

  -- an answer with a certificate or its summary that has it is one to such a book
  certificate_goes : (book : Book) (found : Result Slid RefusedSlide) (answer : Answer) → surface_of (open_book book) ≡ found → AnswersSurface wanted.Certificate book found answer
      → answer.status ≡ ends → Goes book answer.text
  certificate_goes book (Err refused) answer found answers is = absurd (not_refused (sym (ap (λ (a : Answer). a.status) answers) ∙ is))
  certificate_goes book (Ok s) answer found answers is = words_go certificate_text book s (book_words book s) answer found (tells_answers certificate_text book s answer answers) is

  summary_goes : (seed twists : ℕ) (book : Book) (found : Result Slid RefusedSlide) (answer : Answer) → surface_of (open_book book) ≡ found
      → AnswersSurface (wanted.Summary seed twists) book found answer → answer.status ≡ ends → Goes book answer.text
  summary_goes seed twists book (Err refused) answer found answers is = absurd (not_refused (sym (ap (λ (a : Answer). a.status) answers) ∙ is))
  summary_goes seed twists book (Ok s) answer found answers is = words_go (summary seed twists) book s (book_words book s) answer found (tells_answers (summary seed twists) book s answer answers) is

  words_stay : (book : Book) (found : Result Slid RefusedSlide) (answer : Answer) → AnswersSurface wanted.Words book found answer → answer.status ≡ ends → ⊥
  words_stay book (Err refused) answer answers is = not_refused (sym (ap (λ (a : Answer). a.status) answers) ∙ is)
  words_stay book (Ok s) answer answers is = page_stays book s (book_words book s) (sym (ap (λ (a : Answer). a.status) answers) ∙ is)

  -- and so is one to a document
  document_goes : (refusal : Option DocRefusal) (book : Option Book) (answer : Answer) → AnswersDoc wanted.Certificate refusal book answer → answer.status ≡ ends
      → (b : Book) × (book ≡ Some b) × Goes b answer.text
  document_goes (Some refusal) book answer answers is = absurd (not_refused (sym (ap (λ (a : Answer). a.status) answers) ∙ is))
  document_goes None (Some book) answer answers is = (book, refl, certificate_goes book (surface_of (open_book book)) answer refl answers is)
  document_goes None None answer answers is = absurd answers

  page_document : (refusal : Option DocRefusal) (book : Option Book) (answer : Answer) → AnswersDoc wanted.Words refusal book answer → answer.status ≡ ends → ⊥
  page_document (Some refusal) book answer answers is = not_refused (sym (ap (λ (a : Answer). a.status) answers) ∙ is)
  page_document None (Some book) answer answers is = words_stay book (surface_of (open_book book)) answer answers is
  page_document None None answer answers is = answers

  owed_goes : (which : Option Command) (left now_left written now_written : Option (List ℕ)) (answer : Answer) → Owes which left now_left answer
      → answer.status ≡ ends → Appends written now_written answer.text → Limited Goes which left now_left written now_written
  owed_goes None left now_left written now_written answer owed is wrote = absurd (not_usage (sym (ap (λ (a : Answer). a.status) owed) ∙ is))
  owed_goes (Some command.Decide) left now_left written now_written answer (inr long) is wrote = absurd (not_refused (sym (ap (λ (a : Answer). a.status) long.answers) ∙ is))
  owed_goes (Some command.Page) left now_left written now_written answer (inr long) is wrote = absurd (not_refused (sym (ap (λ (a : Answer). a.status) long.answers) ∙ is))
  owed_goes (Some command.Check) left now_left written now_written answer (inr long) is wrote = absurd (not_refused (sym (ap (λ (a : Answer). a.status) long.answers) ∙ is))
  owed_goes (Some command.Page) left now_left written now_written answer (inl all) is wrote = absurd (page_document (refusal_of all.bytes) (book_read all.bytes) answer all.answers is)
  owed_goes (Some command.Check) left now_left written now_written answer (inl all) is wrote = absurd (check_stays (checked all.bytes) (sym (ap (λ (a : Answer). a.status) all.answers) ∙ is))
  owed_goes (Some command.Decide) left now_left written now_written answer (inl all) is wrote =
      let (book, read, goes) = document_goes (refusal_of all.bytes) (book_read all.bytes) answer all.answers is in
      record {
        book = book;
        decides = record { bytes = all.bytes; gave = all.gave; ended = all.ended; read = read };
        line = answer.text;
        goes = goes;
        wrote = wrote;
      }
  owed_goes (Some (command.Sample seed twists)) left now_left written now_written answer (answers, unread) is wrote = record {
    book = sample_book seed twists;
    decides = (refl, unread);
    line = answer.text;
    goes = summary_goes seed twists (sample_book seed twists) (surface_of (open_book (sample_book seed twists))) answer refl answers is;
    wrote = wrote;
  }

  -- what was told with this status
  told_goes : (which : Option Command) (left now_left written now_written : Option (List ℕ)) (result : Status) → result ≡ ends
      → Told which left now_left written now_written result → Limited Goes which left now_left written now_written
  told_goes which left now_left written now_written result is told = owed_goes which left now_left written now_written told.answer told.owed (told.same ∙ is) told.wrote

-- more generators than the limit
pub limited_from_told : (which : Option Command) (left now_left written now_written : Option (List ℕ)) (result : Status) → result ≡ status.GeneratorLimit
    → Told which left now_left written now_written result → Limited GoesOverLimit which left now_left written now_written
limited_from_told = told_goes GoesOverLimit status.GeneratorLimit (λ is. let bad = is in cc) (λ is. let bad = is in cc) (λ is. let bad = is in cc) (λ is. let bad = is in cc) words_limited

-- more fingers than the limit
pub budget_from_told : (which : Option Command) (left now_left written now_written : Option (List ℕ)) (result : Status) → result ≡ status.MoveBudget
    → Told which left now_left written now_written result → Limited GoesOverBudget which left now_left written now_written
budget_from_told = told_goes GoesOverBudget status.MoveBudget (λ is. let bad = is in cc) (λ is. let bad = is in cc) (λ is. let bad = is in cc) (λ is. let bad = is in cc) words_budget
