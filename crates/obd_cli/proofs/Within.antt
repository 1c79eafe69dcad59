-- Of a book that keeps both limits a certificate is made, but for faults and want of memory.
use Rattle.std.proofs.Common.{◌≡◌, ◌⊎◌, ℕ, ◌≤◌, List, length, false, Some, Ok, inl, inr, refl, ◌∙◌, ap, subst}
use Rattle.std.specs.Prelude.{nat_lt}
use Rattle.std.proofs.lemmas.Bool.{le-ltb}
use Rattle.obd_doc.specs.Document.{book_read}
use Rattle.obd_doc.specs.declared.book.Book.{Book}
use Rattle.obd_cli.proofs.Stops.{nothing_stops}
use Rattle.obd_cli.specs.Answers.{most_bytes}
use Rattle.obd_cli.specs.Decisions.{drawing_of}
use Rattle.obd_cli.specs.Run.{HasBookStatus, HasReadStatus, HasSampleStatus, HasStatus, IsFault, IsWithin, book_within, check_status, drawing_status, words_status}
use Rattle.obd_cli.specs.CheckAnswer.{check_answer}
use Rattle.obd_cli.specs.Sample.{sample_book}
use Rattle.witness_check.specs.Checked.{checked}
use Rattle.obd_cli.specs.Words.{book_words}
use Rattle.obd_cli.specs.declared.status.Command.TheVariants as command
use Rattle.obd_cli.specs.declared.status.Status.{Status}
use Rattle.obd_cli.specs.declared.status.Wanted.TheVariants as wanted
use Rattle.obd_cli.specs.declared.status.Status.TheVariants as status

-- the status that a run ends with where no device fails, or want of memory
without_fault : (S : Type 0) (result : Status) → (result ≡ status.ReadFault → ⊥) → (result ≡ status.WriteFault → ⊥) → S ⊎ IsFault result → S ⊎ (result ≡ status.NoMemory)
without_fault S result reads writes (inl has) = inl has
without_fault S result reads writes (inr (inl fault)) = absurd (reads fault)
without_fault S result reads writes (inr (inr (inl fault))) = absurd (writes fault)
without_fault S result reads writes (inr (inr (inr wanting))) = inr wanting

module _ (book : Book) (within : IsWithin book) where
  -- nothing stops its drawing
  ends_done : words_status book within.surface (book_words book within.surface) ≡ status.Done
  ends_done =
      ap (words_status book within.surface) within.words_are
      ∙ ap drawing_status (nothing_stops book.limits (drawing_of within.surface within.words) within.moves within.generators_few)

  -- so Done is owed for it,
  certificate_done : (result : Status) → HasReadStatus wanted.Certificate (Some book) result → result ≡ status.Done
  certificate_done result of_book =
      let built : HasBookStatus wanted.Certificate book (Ok within.surface) result = subst (λ found. HasBookStatus wanted.Certificate book found result) within.surface_is of_book in
      built.by_words ∙ ends_done

  -- also for its summary
  summary_done : (seed twists : ℕ) (result : Status) → HasReadStatus (wanted.Summary seed twists) (Some book) result → result ≡ status.Done
  summary_done seed twists result of_book =
      let built : HasBookStatus (wanted.Summary seed twists) book (Ok within.surface) result = subst (λ found. HasBookStatus (wanted.Summary seed twists) book found result) within.surface_is of_book in
      built.by_words ∙ ends_done

  module _ (bytes : List ℕ) (few : length bytes ≤ most_bytes command.Decide) (read : book_read bytes ≡ Some book) (result : Status) where
    is_read : book_within bytes ≡ Some book
    is_read = let short : nat_lt (most_bytes command.Decide) (length bytes) ≡ false = le-ltb (most_bytes command.Decide) (length bytes) few in rw short read

    done_is_owed : HasStatus command.Decide bytes result → result ≡ status.Done
    done_is_owed has = certificate_done result (subst (λ b. HasReadStatus wanted.Certificate b result) is_read has)

    -- so where no device fails the run ends with Done or wants memory
    pub certified_within : (result ≡ status.ReadFault → ⊥) → (result ≡ status.WriteFault → ⊥) → HasStatus command.Decide bytes result ⊎ IsFault result
        → (result ≡ status.Done) ⊎ (result ≡ status.NoMemory)
    certified_within reads writes ends = done_or (without_fault (HasStatus command.Decide bytes result) result reads writes ends)
      where
        done_or : HasStatus command.Decide bytes result ⊎ (result ≡ status.NoMemory) → (result ≡ status.Done) ⊎ (result ≡ status.NoMemory)
        done_or (inl has) = inl (done_is_owed has)
        done_or (inr wanting) = inr wanting

-- and so does that of a sample
pub sample_within : (seed twists : ℕ) (result : Status) → IsWithin (sample_book seed twists) → (result ≡ status.WriteFault → ⊥)
    → HasSampleStatus seed twists result ⊎ (result ≡ status.WriteFault) ⊎ (result ≡ status.NoMemory) → (result ≡ status.Done) ⊎ (result ≡ status.NoMemory)
sample_within seed twists result within writes (inl has) = inl (summary_done (sample_book seed twists) within seed twists result has)
sample_within seed twists result within writes (inr (inl fault)) = absurd (writes fault)
sample_within seed twists result within writes (inr (inr wanting)) = inr wanting

-- a check of bytes that aren't too many ends with the status of its answer, or wants memory
pub check_within : (bytes : List ℕ) (result : Status) → length bytes ≤ most_bytes command.Check → (result ≡ status.ReadFault → ⊥) → (result ≡ status.WriteFault → ⊥)
    → HasStatus command.Check bytes result ⊎ IsFault result → (result ≡ (check_answer (checked bytes)).status) ⊎ (result ≡ status.NoMemory)
check_within bytes result few reads writes ends = said_or (without_fault (HasStatus command.Check bytes result) result reads writes ends)
  where
    answers : check_status bytes ≡ (check_answer (checked bytes)).status
    answers = let short : nat_lt (most_bytes command.Check) (length bytes) ≡ false = le-ltb (most_bytes command.Check) (length bytes) few in rw short refl

    said_or : HasStatus command.Check bytes result ⊎ (result ≡ status.NoMemory) → (result ≡ (check_answer (checked bytes)).status) ⊎ (result ≡ status.NoMemory)
    said_or (inl has) = inl (has ∙ answers)
    said_or (inr wanting) = inr wanting
