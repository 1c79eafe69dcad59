-- A book whose first drawing takes too many fingers, or whose last one has too many generators.
use Rattle.std.proofs.Common.{◌≡◌, ℕ, ◌≤◌, List, length, Option, None, Some, Result, Ok, Err, refl, sym, ◌∙◌, ap, arith}
use Rattle.page_surface.specs.Drawing.{Drawing}
use Rattle.curve_paths.specs.declared.twist.TooLong.{TooLong}
use Rattle.drawing.specs.Points.{generators}
use Rattle.drawing.specs.Tight.{tight_drawing}
use Rattle.handle_slide.specs.declared.refusal.RefusedSlide.{RefusedSlide}
use Rattle.handle_slide.specs.declared.slid.Slid.{Slid}
use Rattle.nice_plan.specs.Strategy.{strategy}
use Rattle.nice_plan.proofs.Laws.{weight_left}
use Rattle.witness_check.specs.Belonging.{IsFirstDrawing}
use Rattle.witness_check.specs.OpenBook.{IsSurface, OpenBook, surface_of, words_on}
use Rattle.witness_check.specs.declared.certificate.Certificate.{Certificate}
use Rattle.obd_doc.specs.declared.book.Book.{Book}
use Rattle.obd_cli.specs.Opened.{open_book}
use Rattle.obd_cli.specs.Decisions.{drawing_of, stopped}
use Rattle.obd_cli.specs.Run.{GoesOverBudget, GoesOverLimit}
use Rattle.obd_cli.proofs.Answering.{AnswersDrawing, AnswersWords}
use Rattle.obd_cli.specs.Steps.{IsOverBudget, IsOverLimit, last_of}
use Rattle.obd_cli.specs.declared.status.Answer.{Answer}
use Rattle.obd_cli.specs.declared.status.Status.TheVariants as status
use Rattle.obd_cli.proofs.Stops.{drawing_passed, passed, stopped_budget, stopped_limited}

module _ (tells : Certificate → List ℕ) (book : Book) (d : Drawing) (s : Slid) (is_surface : IsSurface (open_book book) s) (first : IsFirstDrawing (open_book book) s d) where
  -- an answer with GeneratorLimit is one to such a book
  drawing_limited : (other : Option Answer) (answer : Answer) → stopped book.limits d ≡ other → AnswersDrawing tells book other answer → answer.status ≡ status.GeneratorLimit → GoesOverLimit book answer.text
  drawing_limited None answer is certifies ends = absurd (let bad = sym ends ∙ certifies.done in cc)
  drawing_limited (Some other) answer is same ends =
      let (moves, over, limits) = stopped_limited book.limits d other is (sym (ap (λ (a : Answer). a.status) same) ∙ ends) in (
        record { surface = s; surface_is = is_surface; first = d; first_is = first; moves = moves; over = over },
        ap (λ (a : Answer). a.text) (same ∙ limits),
      )

  -- and so is one with MoveBudget
  drawing_budget : (other : Option Answer) (answer : Answer) → stopped book.limits d ≡ other → AnswersDrawing tells book other answer → answer.status ≡ status.MoveBudget → GoesOverBudget book answer.text
  drawing_budget None answer is certifies ends = absurd (let bad = sym ends ∙ certifies.done in cc)
  drawing_budget (Some other) answer is same ends =
      let (over, limits) = stopped_budget book.limits d other is (sym (ap (λ (a : Answer). a.status) same) ∙ ends) in (
        _,
        record { surface = s; surface_is = is_surface; first = d; first_is = first; over = over; left_is = refl; some = weight_left book.limits.moves d first.embedded over },
        ap (λ (a : Answer). a.text) (same ∙ limits),
      )

pub words_limited : (tells : Certificate → List ℕ) (book : Book) (s : Slid) (found : Result (List (List ℕ)) TooLong) (answer : Answer) → IsSurface (open_book book) s → AnswersWords tells book s found answer → answer.status ≡ status.GeneratorLimit → GoesOverLimit book answer.text
words_limited tells book s (Err long) answer is_surface is ends = absurd (let bad = sym ends ∙ ap (λ (a : Answer). a.status) is in cc)
words_limited tells book s (Ok words) answer is_surface (first, answers) ends = drawing_limited tells book (drawing_of s words) s is_surface first (stopped book.limits (drawing_of s words)) answer refl answers ends

pub words_budget : (tells : Certificate → List ℕ) (book : Book) (s : Slid) (found : Result (List (List ℕ)) TooLong) (answer : Answer) → IsSurface (open_book book) s → AnswersWords tells book s found answer → answer.status ≡ status.MoveBudget → GoesOverBudget book answer.text
words_budget tells book s (Err long) answer is_surface is ends = absurd (let bad = sym ends ∙ ap (λ (a : Answer). a.status) is in cc)
words_budget tells book s (Ok words) answer is_surface (first, answers) ends = drawing_budget tells book (drawing_of s words) s is_surface first (stopped book.limits (drawing_of s words)) answer refl answers ends

-- a book has one surface
same_surface : (s t : Slid) (found : Result Slid RefusedSlide) → found ≡ Ok s → found ≡ Ok t → s ≡ t
same_surface s t found is other = let both = sym is ∙ other in cc

-- and one first drawing
same_words : (x y : List (List ℕ)) (found : Result (List (List ℕ)) TooLong) → found ≡ Ok x → found ≡ Ok y → x ≡ y
same_words x y found a b = let both = sym a ∙ b in cc

one_first : (book : OpenBook) (s t : Slid) (d e : Drawing) → s ≡ t → IsFirstDrawing book s d → IsFirstDrawing book t e → d ≡ e
one_first book s t d e same first other =
    let words = same_words first.words other.words (words_on s book) first.words_are (ap (λ (u : Slid). words_on u book) same ∙ other.words_are) in
    first.drawn ∙ (ap (λ (u : Slid). tight_drawing u.polygon first.words) same ∙ (ap (tight_drawing t.polygon) words ∙ sym other.drawn))

module _ (book : Book) (d : Drawing) (s : Slid) (is_surface : IsSurface (open_book book) s) (first : IsFirstDrawing (open_book book) s d) where
  -- each first drawing of the book is this one
  pub same_first : (t : Slid) (e : Drawing) → IsSurface (open_book book) t → IsFirstDrawing (open_book book) t e → e ≡ d
  same_first t e surface_is first_is =
      one_first (open_book book) t s e d (same_surface t s (surface_of (open_book book)) surface_is is_surface) first_is first

  -- so where it keeps the limits, the book goes beyond neither
  never_over : length (generators (last_of d)) ≤ book.limits.generators → IsOverLimit book → ⊥
  never_over few over = omega (arith, over.over, ap (λ (e : Drawing). length (generators (last_of e))) (same_first over.surface over.first over.surface_is over.first_is), few)

  never_budget : length (strategy d) ≤ book.limits.moves → (left : ℕ) → IsOverBudget book left → ⊥
  never_budget short left over = omega (arith, over.over, ap (λ (e : Drawing). length (strategy e)) (same_first over.surface over.first over.surface_is over.first_is), short)

-- and an answer with Done is one to such a book
pub words_within : (tells : Certificate → List ℕ) (book : Book) (s : Slid) (found : Result (List (List ℕ)) TooLong) (answer : Answer) → IsSurface (open_book book) s → AnswersWords tells book s found answer → answer.status ≡ status.Done
    → (IsOverLimit book → ⊥) × ((left : ℕ) → IsOverBudget book left → ⊥)
words_within tells book s (Err long) answer is_surface is ends = absurd (let bad = sym ends ∙ ap (λ (a : Answer). a.status) is in cc)
words_within tells book s (Ok words) answer is_surface (first, answers) ends =
    let d = drawing_of s words in
    let (short, few) = passed book.limits d (drawing_passed tells book d (stopped book.limits d) answer refl answers ends) in
    (never_over book d s is_surface first few, never_budget book d s is_surface first short)
