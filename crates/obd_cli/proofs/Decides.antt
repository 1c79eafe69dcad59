-- A run that ends with Done has finished its command, and what a run ends with.
use Rattle.std.proofs.Common.{◌≡◌, ℕ, ◌<◌, ◌≤◌, List, ◌++◌, length, true, false, Option, Some, None, Result, Ok, Err, ◌⊎◌, inl, inr, refl, sym, ◌∙◌, ap, subst, arith, ltb, length-append}
use Rattle.std.specs.Io.KnownBytes.{Consumes, Appends, IsAtEnd}
use Rattle.std.proofs.lemmas.Bool.{lt-ltb, le-ltb}
use Rattle.std.proofs.lemmas.List.{append-nil}
use Rattle.curve_paths.specs.declared.twist.TooLong.{TooLong}
use Rattle.obd_doc.specs.Document.{book_read, refusal_of}
use Rattle.obd_doc.specs.declared.book.Book.{Book}
use Rattle.obd_doc.specs.declared.refusal.DocRefusal.{DocRefusal}
use Rattle.obd_cli.proofs.OverLimit.{words_budget, words_limited, words_within}
use Rattle.obd_cli.proofs.ReadOpens.{certificate_valid}
use Rattle.obd_cli.proofs.SampleOpens.{sample_valid}
use Rattle.obd_cli.proofs.Stops.{words_answered, words_done, words_never}
use Rattle.obd_cli.specs.Answers.{AnswersAll, AnswersCertificate, AnswersDoc, AnswersDocument, AnswersLong, AnswersRead, AnswersSample, AnswersSurface, Owes, has_text, most_bytes, page_answer}
use Rattle.obd_cli.specs.CheckAnswer.{bad_line, check_answer, valid_line}
use Rattle.obd_cli.specs.Run.{Decided, Finished, HasBookStatus, HasReadStatus, HasSampleStatus, HasStatus, IsDecisionStatus, IsFault, Judged, Paged, Rejected, Sampled, Told, book_within, check_status}
use Rattle.obd_cli.specs.Sample.{sample_book, summary}
use Rattle.witness_check.specs.Checked.{checked}
use Rattle.witness_check.specs.Text.{certificate_text}
use Rattle.witness_check.specs.declared.checked.Answer.{Answer as Found}
use Rattle.witness_check.specs.declared.checked.Checked.{Checked}
use Rattle.witness_check.specs.declared.checked.Checked.TheVariants.{Bad, Valid}
use Rattle.witness_check.specs.declared.checked.Reason.{Reason}
use Rattle.witness_check.specs.declared.certificate.Certificate.{Certificate}
use Rattle.obd_cli.specs.Decisions.{Tells}
use Rattle.obd_cli.proofs.Answering.{tells_answers}
use Rattle.handle_slide.specs.declared.refusal.RefusedSlide.{RefusedSlide}
use Rattle.handle_slide.specs.declared.slid.Slid.{Slid}
use Rattle.witness_check.specs.OpenBook.{IsSurface, surface_of}
use Rattle.obd_cli.specs.Opened.{open_book}
use Rattle.obd_cli.specs.Words.{book_words, words_text}
use Rattle.obd_cli.specs.declared.status.Command.{Command}
use Rattle.obd_cli.specs.declared.status.Wanted.{Wanted}
use Rattle.obd_cli.specs.declared.status.Wanted.TheVariants as wanted
use Rattle.obd_cli.specs.declared.status.Command.TheVariants as command
use Rattle.obd_cli.specs.declared.status.Answer.{Answer}
use Rattle.obd_cli.specs.declared.status.Status.{Status}
use Rattle.obd_cli.specs.declared.status.Status.TheVariants as status

-- an answer with Done is one to a surface of the book
surface_done : (what : Wanted) (book : Book) (found : Result Slid RefusedSlide) (answer : Answer) → AnswersSurface what book found answer → answer.status ≡ status.Done
    → (s : Slid) × (found ≡ Ok s) × AnswersSurface what book (Ok s) answer
surface_done what book (Err refused) answer answers done = absurd (let bad = sym done ∙ ap (λ (a : Answer). a.status) answers in cc)
surface_done what book (Ok s) answer answers done = (s, refl, answers)

-- and so is the answer to a document
doc_done : (what : Wanted) (refusal : Option DocRefusal) (book : Option Book) (answer : Answer) → AnswersDoc what refusal book answer → answer.status ≡ status.Done
    → (b : Book) × (book ≡ Some b) × ((s : Slid) × IsSurface (open_book b) s × AnswersSurface what b (Ok s) answer)
doc_done what (Some refusal) book answer answers done = absurd (let bad = sym done ∙ ap (λ (a : Answer). a.status) answers in cc)
doc_done what None (Some book) answer answers done = (book, refl, surface_done what book (surface_of (open_book book)) answer answers done)
doc_done what None None answer answers done = absurd answers

-- the answer of `page` with Done has words
page_done : (book : Book) (s : Slid) (found : Result (List (List ℕ)) TooLong) (answer : Answer) → answer ≡ page_answer book s found → answer.status ≡ status.Done
    → (words : List (List ℕ)) × (found ≡ Ok words) × (answer.text ≡ words_text book s words)
page_done book s (Ok words) answer is done = (words, refl, ap (λ (a : Answer). a.text) is)
page_done book s (Err long) answer is done = absurd (let bad = sym done ∙ ap (λ (a : Answer). a.status) is in cc)

-- the answer of `check` with Done is that to a valid certificate,
check_done : (said : Checked) (answer : Answer) → answer ≡ check_answer said → answer.status ≡ status.Done → (found : Found) × (said ≡ Valid found) × (answer.text ≡ valid_line found)
check_done (Valid found) answer is done = (found, refl, ap (λ (a : Answer). a.text) is)
check_done (Bad line reason) answer is done = absurd (let bad = sym done ∙ ap (λ (a : Answer). a.status) is in cc)

-- and with Bad to a bad line
check_bad : (said : Checked) (answer : Answer) → answer ≡ check_answer said → answer.status ≡ status.Bad
    → (line : ℕ) × (reason : Reason) × (said ≡ Bad line reason) × (answer.text ≡ bad_line line reason)
check_bad (Bad line reason) answer is ends = (line, reason, refl, ap (λ (a : Answer). a.text) is)
check_bad (Valid found) answer is ends = absurd (let bad = sym ends ∙ ap (λ (a : Answer). a.status) is in cc)

-- what was read with `decide`
decided : (left now_left written now_written : Option (List ℕ)) (answer : Answer) → AnswersAll (most_bytes command.Decide) (AnswersDocument wanted.Certificate) left now_left answer
    → answer.status ≡ status.Done → Appends written now_written answer.text → Decided left now_left written now_written
decided left now_left written now_written answer all done wrote =
    let (book, read, (s, is_surface, answers)) = doc_done wanted.Certificate (refusal_of all.bytes) (book_read all.bytes) answer all.answers done in
    let certifies = words_done certificate_text book s (book_words book s) answer (tells_answers certificate_text book s answer answers) done in
    record {
      bytes = all.bytes;
      gave = all.gave;
      ended = all.ended;
      book = book;
      read = read;
      certificate = certifies.certificate;
      belongs = certifies.belongs;
      valid = certificate_valid all.bytes book certifies.certificate read certifies.belongs;
      wrote = subst (Appends written now_written) certifies.text wrote;
    }

-- with `page`
paged : (left now_left written now_written : Option (List ℕ)) (answer : Answer) → AnswersAll (most_bytes command.Page) (AnswersDocument wanted.Words) left now_left answer
    → answer.status ≡ status.Done → Appends written now_written answer.text → Paged left now_left written now_written
paged left now_left written now_written answer all done wrote =
    let (book, read, (s, is_surface, is)) = doc_done wanted.Words (refusal_of all.bytes) (book_read all.bytes) answer all.answers done in
    let (words, words_are, text) = page_done book s (book_words book s) answer is done in
    record {
      bytes = all.bytes;
      gave = all.gave;
      ended = all.ended;
      book = book;
      read = read;
      surface = s;
      surface_is = is_surface;
      words = words;
      words_are = words_are;
      wrote = subst (Appends written now_written) text wrote;
    }

-- with `check`
judged : (left now_left written now_written : Option (List ℕ)) (answer : Answer) → AnswersAll (most_bytes command.Check) AnswersCertificate left now_left answer
    → answer.status ≡ status.Done → Appends written now_written answer.text → Judged left now_left written now_written
judged left now_left written now_written answer all done wrote =
    let (found, valid, text) = check_done (checked all.bytes) answer all.answers done in
    record {
      bytes = all.bytes;
      gave = all.gave;
      ended = all.ended;
      answer = found;
      valid = valid;
      wrote = subst (Appends written now_written) text wrote;
    }

-- and what was told of a sample
sampled : (seed twists : ℕ) → twists ≤ 256 → (left now_left written now_written : Option (List ℕ)) (answer : Answer) → AnswersSample seed twists answer → now_left ≡ left
    → answer.status ≡ status.Done → Appends written now_written answer.text → Sampled seed twists left now_left written now_written
sampled seed twists few left now_left written now_written answer answers unread done wrote =
    let book = sample_book seed twists in
    let (s, is_surface, tells) = surface_done (wanted.Summary seed twists) book (surface_of (open_book book)) answer answers done in
    let certifies = words_done (summary seed twists) book s (book_words book s) answer (tells_answers (summary seed twists) book s answer tells) done in
    record {
      unread = unread;
      certificate = certifies.certificate;
      belongs = certifies.belongs;
      valid = sample_valid seed twists few certifies.certificate certifies.belongs;
      wrote = subst (Appends written now_written) certifies.text wrote;
    }

-- too many bytes aren't answered with Done
long_not_done : (most : ℕ) (left now_left : Option (List ℕ)) (answer : Answer) → AnswersLong most left now_left answer → answer.status ≡ status.Done → ⊥
long_not_done most left now_left answer long done = let bad = sym done ∙ ap (λ (a : Answer). a.status) long.answers in cc

-- the numbers of a sample are in range
abbrev IsInRange : Option Command → Type 0
IsInRange which = (seed twists : ℕ) → which ≡ Some (command.Sample seed twists) → (seed < 65536) × (1 ≤ twists) × (twists ≤ 256)

-- an answer with Done finishes its command
by_owed : (command : Option Command) (left now_left written now_written : Option (List ℕ)) (answer : Answer) → IsInRange command → Owes command left now_left answer
    → answer.status ≡ status.Done → Appends written now_written answer.text → Finished command left now_left written now_written
by_owed None left now_left written now_written answer range owed done wrote = absurd (let bad = sym done ∙ ap (λ (a : Answer). a.status) owed in cc)
by_owed (Some command.Decide) left now_left written now_written answer range (inl all) done wrote = decided left now_left written now_written answer all done wrote
by_owed (Some command.Decide) left now_left written now_written answer range (inr long) done wrote = absurd (long_not_done (most_bytes command.Decide) left now_left answer long done)
by_owed (Some command.Page) left now_left written now_written answer range (inl all) done wrote = paged left now_left written now_written answer all done wrote
by_owed (Some command.Page) left now_left written now_written answer range (inr long) done wrote = absurd (long_not_done (most_bytes command.Page) left now_left answer long done)
by_owed (Some command.Check) left now_left written now_written answer range (inl all) done wrote = judged left now_left written now_written answer all done wrote
by_owed (Some command.Check) left now_left written now_written answer range (inr long) done wrote = absurd (long_not_done (most_bytes command.Check) left now_left answer long done)
by_owed (Some (command.Sample seed twists)) left now_left written now_written answer range (answers, unread) done wrote =
    let (_, _, few) = range seed twists refl in
    sampled seed twists few left now_left written now_written answer answers unread done wrote

-- what was told with Done is finished
pub finished_from_told : (command : Option Command) (left now_left written now_written : Option (List ℕ)) (result : Status) → IsInRange command → result ≡ status.Done
    → Told command left now_left written now_written result → Finished command left now_left written now_written
finished_from_told command left now_left written now_written result range done told =
    by_owed command left now_left written now_written told.answer range told.owed (told.same ∙ done) told.wrote

-- what a source that tells its bytes gave, up to its end, is all of them
all_given : (bytes gave : List ℕ) (now_left : Option (List ℕ)) → Consumes (Some bytes) now_left gave → IsAtEnd now_left → gave ≡ bytes
all_given bytes gave None consumes ended = absurd consumes
all_given bytes gave (Some rest) consumes ended = sym (consumes ∙ (ap (λ more. gave ++ more) ended ∙ append-nil gave))

-- and as many as it gave were there
as_many : (bytes gave : List ℕ) (now_left : Option (List ℕ)) → Consumes (Some bytes) now_left gave → length gave ≤ length bytes
as_many bytes gave None consumes = absurd consumes
as_many bytes gave (Some rest) consumes = omega (arith, ap length consumes, length-append gave rest)

-- the status of what is decided
decision_status : (tells : Certificate → List ℕ) (book : Book) (s : Slid) (answer : Answer) → IsSurface (open_book book) s → Tells tells book s answer → IsDecisionStatus book s answer.status
decision_status tells book s answer is told =
    let found = book_words book s in
    let answers = tells_answers tells book s answer told in
    record {
      by_words = words_answered tells book s found answer answers;
      keeps_limit = λ done. (words_within tells book s found answer is answers done).0;
      keeps_budget = λ done. (words_within tells book s found answer is answers done).1;
      over_limit = λ limits. (words_limited tells book s found answer is answers limits).0;
      over_budget = λ limits. let (left, over, line) = words_budget tells book s found answer is answers limits in (left, over);
    }

-- the status of the answer to a book
surface_status : (what : Wanted) (book : Book) (found : Result Slid RefusedSlide) (answer : Answer) → surface_of (open_book book) ≡ found → AnswersSurface what book found answer
    → HasBookStatus what book found answer.status
surface_status what book (Err refused) answer is answers = ap (λ (a : Answer). a.status) answers
surface_status wanted.Certificate book (Ok s) answer is answers = decision_status certificate_text book s answer is answers
surface_status wanted.Words book (Ok s) answer is answers = ap (λ (a : Answer). a.status) answers
surface_status (wanted.Summary seed twists) book (Ok s) answer is answers = decision_status (summary seed twists) book s answer is answers

-- where a rule fails there is no book
no_book : (bytes : List ℕ) (refusal : DocRefusal) → refusal_of bytes ≡ Some refusal → book_read bytes ≡ None
no_book bytes refusal is = rw is refl

doc_status : (what : Wanted) (bytes : List ℕ) (refusal : Option DocRefusal) (book : Option Book) (answer : Answer) → refusal_of bytes ≡ refusal → book_read bytes ≡ book
    → AnswersDoc what refusal book answer → HasReadStatus what book answer.status
doc_status what bytes (Some refusal) (Some book) answer is read answers = absurd (let bad = sym read ∙ no_book bytes refusal is in cc)
doc_status what bytes (Some refusal) None answer is read answers = ap (λ (a : Answer). a.status) answers
doc_status what bytes None (Some book) answer is read answers = surface_status what book (surface_of (open_book book)) answer refl answers
doc_status what bytes None None answer is read answers = absurd answers

-- and to a sample
sample_status : (seed twists : ℕ) (answer : Answer) → AnswersSample seed twists answer → HasSampleStatus seed twists answer.status
sample_status seed twists answer answers = surface_status (wanted.Summary seed twists) (sample_book seed twists) (surface_of (open_book (sample_book seed twists))) answer refl answers

-- what is owed for bytes that are told has the status that is owed: for a document,
document_status : (what : Wanted) (bytes : List ℕ) (now_left : Option (List ℕ)) (answer : Answer) → AnswersRead (most_bytes command.Decide) (AnswersDocument what) (Some bytes) now_left answer
    → HasReadStatus what (book_within bytes) answer.status
document_status what bytes now_left answer (inl all) =
    let same = all_given bytes all.bytes now_left all.gave all.ended in
    let within : ltb (most_bytes command.Decide) (length bytes) ≡ false = le-ltb (most_bytes command.Decide) (length bytes) (omega (arith, all.within, ap length same)) in
    let by_bytes = doc_status what all.bytes (refusal_of all.bytes) (book_read all.bytes) answer refl refl all.answers in
    rw within (subst (λ bs. HasReadStatus what (book_read bs) answer.status) same by_bytes)
document_status what bytes now_left answer (inr long) =
    let above : ltb (most_bytes command.Decide) (length bytes) ≡ true = lt-ltb (most_bytes command.Decide) (length bytes) (omega (arith, long.size, as_many bytes long.bytes now_left long.gave)) in
    rw above (ap (λ (a : Answer). a.status) long.answers)

-- and for a certificate
certificate_status : (bytes : List ℕ) (now_left : Option (List ℕ)) (answer : Answer) → AnswersRead (most_bytes command.Check) AnswersCertificate (Some bytes) now_left answer → answer.status ≡ check_status bytes
certificate_status bytes now_left answer (inl all) =
    let same = all_given bytes all.bytes now_left all.gave all.ended in
    let within : ltb (most_bytes command.Check) (length bytes) ≡ false = le-ltb (most_bytes command.Check) (length bytes) (omega (arith, all.within, ap length same)) in
    let by_bytes = ap (λ (a : Answer). a.status) all.answers in
    rw within (subst (λ bs. answer.status ≡ (check_answer (checked bs)).status) same by_bytes)
certificate_status bytes now_left answer (inr long) =
    let above : ltb (most_bytes command.Check) (length bytes) ≡ true = lt-ltb (most_bytes command.Check) (length bytes) (omega (arith, long.size, as_many bytes long.bytes now_left long.gave)) in
    rw above (ap (λ (a : Answer). a.status) long.answers)

owed_status : (command : Command) (bytes : List ℕ) (now_left : Option (List ℕ)) (answer : Answer) → Owes (Some command) (Some bytes) now_left answer → HasStatus command bytes answer.status
owed_status command.Decide bytes now_left answer owed = document_status wanted.Certificate bytes now_left answer owed
owed_status command.Page bytes now_left answer owed = document_status wanted.Words bytes now_left answer owed
owed_status command.Check bytes now_left answer owed = certificate_status bytes now_left answer owed
owed_status (command.Sample seed twists) bytes now_left answer (answers, unread) = sample_status seed twists answer answers

-- a run over a source that tells its bytes ends with the status that is owed, or a fault
pub completed : (bytes : List ℕ) (which : Command) (command : Option Command) (left now_left written now_written : Option (List ℕ)) (result : Status)
    → command ≡ Some which → left ≡ Some bytes → (has_text result ≡ true → Told command left now_left written now_written result)
    → (has_text result ≡ true) ⊎ IsFault result → HasStatus which bytes result ⊎ IsFault result
completed bytes which command left now_left written now_written result is tells told (inr fault) = inr fault
completed bytes which command left now_left written now_written result is tells told (inl text) =
    let wrote = told text in
    let owed = subst (λ c. Owes c (Some bytes) now_left wrote.answer) is (subst (λ l. Owes command l now_left wrote.answer) tells wrote.owed) in
    inl (subst (HasStatus which bytes) wrote.same (owed_status which bytes now_left wrote.answer owed))

-- a run of a sample ends with the status that is owed, or the sink fails or memory is wanting
pub sample_ended : (seed twists : ℕ) (which : Option Command) (left now_left written now_written : Option (List ℕ)) (result : Status)
    → which ≡ Some (command.Sample seed twists) → (result ≡ status.ReadFault → ⊥) → (has_text result ≡ true → Told which left now_left written now_written result)
    → (has_text result ≡ true) ⊎ IsFault result → HasSampleStatus seed twists result ⊎ (result ≡ status.WriteFault) ⊎ (result ≡ status.NoMemory)
sample_ended seed twists which left now_left written now_written result is reads told (inr (inl fault)) = absurd (reads fault)
sample_ended seed twists which left now_left written now_written result is reads told (inr (inr fault)) = inr fault
sample_ended seed twists which left now_left written now_written result is reads told (inl text) =
    let wrote = told text in
    let owed = subst (λ c. Owes c left now_left wrote.answer) is wrote.owed in
    inl (subst (HasSampleStatus seed twists) wrote.same (sample_status seed twists wrote.answer owed.0))

-- a status that is none of an answer to a book
module _ (ends : Status) (not_done : status.Done ≡ ends → ⊥) (not_refused : status.Refused ≡ ends → ⊥) (not_budget : status.MoveBudget ≡ ends → ⊥) (not_limit : status.GeneratorLimit ≡ ends → ⊥) where
  page_never : (book : Book) (s : Slid) (found : Result (List (List ℕ)) TooLong) → (page_answer book s found).status ≡ ends → ⊥
  page_never book s (Ok words) is = not_done is
  page_never book s (Err long) is = not_refused is

  book_never : (what : Wanted) (book : Book) (found : Result Slid RefusedSlide) → HasBookStatus what book found ends → ⊥
  book_never what book (Err refused) is = not_refused (sym is)
  book_never wanted.Certificate book (Ok s) is = words_never ends not_done not_refused not_budget not_limit book s (book_words book s) (sym is.by_words)
  book_never wanted.Words book (Ok s) is = page_never book s (book_words book s) (sym is)
  book_never (wanted.Summary seed twists) book (Ok s) is = words_never ends not_done not_refused not_budget not_limit book s (book_words book s) (sym is.by_words)

  read_never : (what : Wanted) (book : Option Book) → HasReadStatus what book ends → ⊥
  read_never what (Some book) is = book_never what book (surface_of (open_book book)) is
  read_never what None is = not_refused (sym is)

  -- nor of one to a document,
  document_never : (most : ℕ) (what : Wanted) (left now_left : Option (List ℕ)) (answer : Answer) → AnswersRead most (AnswersDocument what) left now_left answer → answer.status ≡ ends → ⊥
  document_never most what left now_left answer (inl all) is =
      read_never what (book_read all.bytes)
      (subst (HasReadStatus what (book_read all.bytes)) is (doc_status what all.bytes (refusal_of all.bytes) (book_read all.bytes) answer refl refl all.answers))
  document_never most what left now_left answer (inr long) is = not_refused (sym (ap (λ (a : Answer). a.status) long.answers) ∙ is)

  -- nor of a sample's
  sample_never : (seed twists : ℕ) (answer : Answer) → AnswersSample seed twists answer → answer.status ≡ ends → ⊥
  sample_never seed twists answer answers is =
      read_never (wanted.Summary seed twists) (Some (sample_book seed twists)) (subst (HasSampleStatus seed twists) is (sample_status seed twists answer answers))

-- the answer of `check` isn't the usage line
check_no_usage : (said : Checked) → (check_answer said).status ≡ status.Usage → ⊥
check_no_usage (Valid found) is = let bad = is in cc
check_no_usage (Bad line reason) is = let bad = is in cc

-- nor is that of another command
command_no_usage : (command : Command) (left now_left : Option (List ℕ)) (answer : Answer) → Owes (Some command) left now_left answer → answer.status ≡ status.Usage → ⊥
command_no_usage command.Decide left now_left answer owed is =
    document_never status.Usage (λ e. let bad = e in cc) (λ e. let bad = e in cc) (λ e. let bad = e in cc) (λ e. let bad = e in cc) (most_bytes command.Decide) wanted.Certificate left now_left answer owed is
command_no_usage command.Page left now_left answer owed is =
    document_never status.Usage (λ e. let bad = e in cc) (λ e. let bad = e in cc) (λ e. let bad = e in cc) (λ e. let bad = e in cc) (most_bytes command.Page) wanted.Words left now_left answer owed is
command_no_usage command.Check left now_left answer (inl all) is = check_no_usage (checked all.bytes) (sym (ap (λ (a : Answer). a.status) all.answers) ∙ is)
command_no_usage command.Check left now_left answer (inr long) is = let bad = sym (ap (λ (a : Answer). a.status) long.answers) ∙ is in cc
command_no_usage (command.Sample seed twists) left now_left answer (answers, unread) is =
    sample_never status.Usage (λ e. let bad = e in cc) (λ e. let bad = e in cc) (λ e. let bad = e in cc) (λ e. let bad = e in cc) seed twists answer answers is

-- so Usage is told for words that are no command
pub usage_told : (command : Option Command) (left now_left written now_written : Option (List ℕ)) (result : Status) → result ≡ status.Usage
    → Told command left now_left written now_written result → command ≡ None
usage_told None left now_left written now_written result is told = refl
usage_told (Some command) left now_left written now_written result is told = absurd (command_no_usage command left now_left told.answer told.owed (told.same ∙ is))

-- an answer with Bad is that of `check` to a bad line
rejected : (which : Option Command) (left now_left written now_written : Option (List ℕ)) (answer : Answer) → Owes which left now_left answer → answer.status ≡ status.Bad
    → Appends written now_written answer.text → Rejected which left now_left written now_written
rejected None left now_left written now_written answer owed is wrote = absurd (let bad = sym is ∙ ap (λ (a : Answer). a.status) owed in cc)
rejected (Some command.Decide) left now_left written now_written answer owed is wrote = absurd (
    document_never status.Bad (λ e. let bad = e in cc) (λ e. let bad = e in cc) (λ e. let bad = e in cc) (λ e. let bad = e in cc) (most_bytes command.Decide) wanted.Certificate left now_left answer owed is)
rejected (Some command.Page) left now_left written now_written answer owed is wrote = absurd (
    document_never status.Bad (λ e. let bad = e in cc) (λ e. let bad = e in cc) (λ e. let bad = e in cc) (λ e. let bad = e in cc) (most_bytes command.Page) wanted.Words left now_left answer owed is)
rejected (Some (command.Sample seed twists)) left now_left written now_written answer (answers, unread) is wrote = absurd (
    sample_never status.Bad (λ e. let bad = e in cc) (λ e. let bad = e in cc) (λ e. let bad = e in cc) (λ e. let bad = e in cc) seed twists answer answers is)
rejected (Some command.Check) left now_left written now_written answer (inr long) is wrote = absurd (let bad = sym (ap (λ (a : Answer). a.status) long.answers) ∙ is in cc)
rejected (Some command.Check) left now_left written now_written answer (inl all) is wrote =
    let (line, reason, said, text) = check_bad (checked all.bytes) answer all.answers is in
    record {
      checks = refl;
      bytes = all.bytes;
      gave = all.gave;
      ended = all.ended;
      line = line;
      reason = reason;
      bad = said;
      wrote = subst (Appends written now_written) text wrote;
    }

pub rejected_from_told : (which : Option Command) (left now_left written now_written : Option (List ℕ)) (result : Status) → result ≡ status.Bad
    → Told which left now_left written now_written result → Rejected which left now_left written now_written
rejected_from_told which left now_left written now_written result is told = rejected which left now_left written now_written told.answer told.owed (told.same ∙ is) told.wrote
