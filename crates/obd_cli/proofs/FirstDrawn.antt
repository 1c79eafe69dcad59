-- The first drawing of a book is the drawing of its twist word.
use Rattle.std.proofs.Common.{◌≡◌, ℕ, List, map, refl, sym, ◌∙◌, ap}
use Rattle.std.specs.Prelude.{Option, Result, Ok, Err, IfOk}
use Rattle.obd_base.specs.declared.points.Exit.{Exit}
use Rattle.page_surface.specs.Drawing.{Drawing, words}
use Rattle.page_surface.specs.Polygon.{Polygon}
use Rattle.curve_paths.specs.Twists.{exits_of, words_after}
use Rattle.curve_paths.specs.declared.twist.TooLong.{TooLong}
use Rattle.curve_paths.specs.declared.twist.Twist.{Twist}
use Rattle.drawing.specs.Room.{Roomy}
use Rattle.drawing.specs.Tight.{tight_drawing}
use Rattle.handle_slide.specs.declared.slid.Slid.{Slid}
use Rattle.monodromy.specs.Drawn.{IsDrawn}
use Rattle.monodromy.specs.declared.refusal.MonodromyRefusal.{MonodromyRefusal}
use Rattle.witness_check.specs.Belonging.{IsFirstDrawing}
use Rattle.obd_doc.specs.Document.{IsBook}
use Rattle.obd_doc.specs.declared.book.Book.{Book}
use Rattle.obd_cli.specs.Opened.{open_book}
use Rattle.obd_cli.specs.Words.{book_words}
use Rattle.obd_cli.proofs.BookWords.{book_words_are}

module _ (book : Book) (valid : IsBook book) (s : Slid) (p : Polygon) (curves : List (Option (List Exit))) (twists : List Twist)
    (polygon : p ≡ s.polygon) (are : curves ≡ s.curves) (entries : twists ≡ book.twists) where
  -- the words after the book's twists are the book's
  pub words_drawn : (result : Result (List (List ℕ)) TooLong) → words_after p (map exits_of curves) twists ≡ result → book_words book s ≡ result
  unfolding book_words
  words_drawn result e =
      let words_are : words_after p (map exits_of curves) twists ≡ words_after s.polygon (map exits_of s.curves) book.twists = rw (polygon, are, entries) refl in
      sym words_are ∙ e

  -- and their drawing is the book's first one
  first_drawn : (d : Drawing) → words_after p (map exits_of curves) twists ≡ Ok (words d) → IsDrawn p (words d) d → IsFirstDrawing (open_book book) s d
  first_drawn d after drawn = record {
    words = words d;
    words_are = sym (book_words_are book s valid) ∙ words_drawn (Ok (words d)) after;
    drawn = drawn.drawn ∙ ap (λ (q : Polygon). tight_drawing q (words d)) polygon;
    embedded = drawn.embedded;
    tight = drawn.tight;
  }

  -- as far as there is one
  pub first_if : (r : Result Roomy MonodromyRefusal) → IfOk r (λ d. words_after p (map exits_of curves) twists ≡ Ok (words d.drawing)) → IfOk r (λ d. IsDrawn p (words d.drawing) d.drawing)
      → IfOk r (λ d. IsFirstDrawing (open_book book) s d.drawing)
  first_if (Ok d) after drawn = first_drawn d.drawing after drawn
  first_if (Err why) after drawn = tt
