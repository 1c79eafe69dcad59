-- A book of which everything is taken.
use Rattle.std.proofs.Common.{◌≡◌, ℕ, ◌≤◌, true, List, length, Option, None, Some, Result, Ok, Err, refl, sym, ◌∙◌, ap, subst}
use Rattle.std.specs.Prelude.{IfOk}
use Rattle.std.proofs.lemmas.Result.{IfOk-weaker}
use Rattle.obd_doc.specs.Document.{book_read, refusal_of}
use Rattle.obd_doc.specs.declared.refusal.DocRefusal.{DocRefusal}
use Rattle.obd_cli.specs.declared.status.Answer.{Answer}
use Rattle.obd_doc.specs.declared.book.Book.{Book}
use Rattle.obd_cli.proofs.Stops.{words_settled}
use Rattle.obd_cli.specs.Opened.{open_book}
use Rattle.obd_cli.specs.Answers.{AnswersBook, AnswersDoc, AnswersDocument, AnswersSurface, has_text}
use Rattle.obd_cli.specs.Decisions.{DecidesDrawing, DecidesWords, Tells, drawing_of, refused_with, stopped, told_by}
use Rattle.obd_cli.specs.Sample.{HasFewCrossings, crossings}
use Rattle.obd_cli.specs.declared.decide.Decision.{Decision}
use Rattle.obd_cli.specs.declared.decide.Decision.TheVariants.{Certified, Stopped}
use Rattle.obd_cli.proofs.Answering.{tells_answers}
use Rattle.obd_cli.proofs.OverLimit.{same_first}
use Rattle.obd_base.specs.declared.points.Exit.{Exit}
use Rattle.std.specs.List.{flat_map}
use Rattle.obd_cli.specs.Words.{book_words, long_line}
use Rattle.curve_paths.specs.declared.twist.TooLong.{TooLong}
use Rattle.page_surface.specs.Drawing.{Drawing, all_exits, words}
use Rattle.witness_check.specs.Belonging.{IsFirstDrawing}
use Rattle.witness_check.specs.OpenBook.{IsSurface, surface_of}
use Rattle.handle_slide.specs.declared.refusal.RefusedSlide.{RefusedSlide}
use Rattle.handle_slide.specs.declared.slid.Slid.{Slid}
use Rattle.obd_cli.specs.Steps.{IsCertificateOf}
use Rattle.witness_check.specs.declared.certificate.Certificate.{Certificate}
use Rattle.obd_cli.specs.declared.status.Wanted.{Wanted}

-- where there is a book no rule fails
no_refusal : (bytes : List ℕ) (book : Book) (refusal : Option DocRefusal) → refusal_of bytes ≡ refusal → book_read bytes ≡ Some book → refusal ≡ None
no_refusal bytes book None is read = refl
no_refusal bytes book (Some refusal) is read = absurd (let none : book_read bytes ≡ None = rw is refl in let bad = sym read ∙ none in cc)

-- so the answer to the book is the answer to its bytes
pub book_answers : {E : Type 0} (what : Wanted) (bytes : List ℕ) (book : Book) (result : Result Answer E) → Some book ≡ book_read bytes → IfOk result (AnswersBook what book) → IfOk result (AnswersDocument what bytes)
book_answers what bytes book result read answers =
    IfOk-weaker result (AnswersBook what book) (AnswersDocument what bytes)
    (λ answer h. subst (λ (r : Option DocRefusal). AnswersDoc what r (book_read bytes) answer) (sym (no_refusal bytes book (refusal_of bytes) refl (sym read)))
    (subst (λ (b : Option Book). AnswersDoc what None b answer) read h))
    answers

-- a certificate of the book is decided, where nothing stands in its place,
pub certified_decision : (book : Book) (stops : Option Answer) (c : Certificate) → IsCertificateOf book c → stops ≡ None → DecidesDrawing book stops (Certified c)
certified_decision book stops c belongs none = subst (λ (o : Option Answer). DecidesDrawing book o (Certified c)) (sym none) (c, belongs, refl)

-- and what stands there
pub stopped_decision : {E : Type 0} (book : Book) (stops : Option Answer) (other : Answer) (result : Result Decision E) → stops ≡ Some other
    → IfOk result (λ decision. decision ≡ Stopped other) → IfOk result (DecidesDrawing book stops)
stopped_decision book stops other result is_other =
    IfOk-weaker result (λ decision. decision ≡ Stopped other) (DecidesDrawing book stops)
    (λ decision is. subst (λ (o : Option Answer). DecidesDrawing book o decision) (sym is_other) is)

-- what is decided of the first drawing is decided of the words
pub words_decision : {E : Type 0} (book : Book) (s : Slid) (result : Result Decision E) (d : Drawing) → IsFirstDrawing (open_book book) s d → book_words book s ≡ Ok (words d)
    → d ≡ drawing_of s (words d) → IfOk result (DecidesDrawing book (stopped book.limits d)) → IfOk result (DecidesWords book s (book_words book s))
words_decision book s result d first found same =
    IfOk-weaker result (DecidesDrawing book (stopped book.limits d)) (DecidesWords book s (book_words book s))
    (λ decision h. subst (λ (r : Result (List (List ℕ)) TooLong). DecidesWords book s r decision) (sym found) (
      subst (IsFirstDrawing (open_book book) s) same first,
      subst (λ (e : Drawing). DecidesDrawing book (stopped book.limits e) decision) same h,
    ))

-- and so is the line of words that are too long
pub long_decision : (book : Book) (s : Slid) (long : TooLong) (answer : Answer) → book_words book s ≡ Err long → answer ≡ refused_with (long_line long)
    → DecidesWords book s (book_words book s) (Stopped answer)
long_decision book s long answer found is = subst (λ (r : Result (List (List ℕ)) TooLong). DecidesWords book s r (Stopped answer)) (sym found) (ap Stopped is)

module _ (book : Book) (d : Drawing) (s : Slid) (is_surface : IsSurface (open_book book) s) (first : IsFirstDrawing (open_book book) s d) (few : length (all_exits d) ≤ 4000) where
  -- a certificate of the book has the crossings of its first drawing,
  few_crossings : (c : Certificate) → IsCertificateOf book c → crossings c ≤ 4000
  few_crossings c of_book =
      let b = of_book.belongs in
      let same = same_first book d s is_surface first b.surface b.first b.surface_is b.first_is in
      subst (λ (strands : List (List Exit)). length (flat_map (λ (strand : List Exit). strand) strands) ≤ 4000) (sym (b.strands ∙ ap (λ (e : Drawing). e.strands) same)) few

  -- which are few
  few_decided : (stops : Option Answer) (decision : Decision) → DecidesDrawing book stops decision → HasFewCrossings decision
  few_decided (Some other) decision is = subst HasFewCrossings (sym is) tt
  few_decided None decision (c, belongs, is) = subst HasFewCrossings (sym is) (few_crossings c belongs)

  pub few_decisions : {E : Type 0} (result : Result Decision E) (stops : Option Answer) → IfOk result (DecidesDrawing book stops) → IfOk result HasFewCrossings
  few_decisions result stops = IfOk-weaker result (DecidesDrawing book stops) HasFewCrossings (few_decided stops)

module _ {E : Type 0} (tells : Certificate → List ℕ) (book : Book) (s : Slid) (result : Result Answer E) where
  -- the answer that tells what is decided
  pub told_answer : (decision : Decision) → DecidesWords book s (book_words book s) decision → IfOk result (λ answer. answer ≡ told_by tells decision) → IfOk result (Tells tells book s)
  told_answer decision decided =
      IfOk-weaker result (λ answer. answer ≡ told_by tells decision) (Tells tells book s) (λ answer is. record { decision = decision; decided = decided; told = is })

  -- has a text
  pub settled_answer : IfOk result (Tells tells book s) → IfOk result (λ answer. has_text answer.status ≡ true)
  settled_answer = IfOk-weaker result (Tells tells book s) (λ answer. has_text answer.status ≡ true)
      (λ answer told. words_settled tells book s (book_words book s) answer (tells_answers tells book s answer told))

-- the answer to a surface of the book is that to the book, and so is the answer to a slide that is refused
pub surface_answer : {E : Type 0} (what : Wanted) (book : Book) (found : Result Slid RefusedSlide) (result : Result Answer E) → surface_of (open_book book) ≡ found
    → IfOk result (AnswersSurface what book found) → IfOk result (AnswersBook what book)
surface_answer what book found result is =
    IfOk-weaker result (AnswersSurface what book found) (AnswersBook what book) (λ answer h. subst (λ r. AnswersSurface what book r answer) (sym is) h)
