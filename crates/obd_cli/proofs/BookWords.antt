-- The words that `page` tells are those of the open book.
use Rattle.std.proofs.Common.{◌≡◌, ℕ, List, [], ◌∷◌, map, refl, sym, ◌∙◌, ap}
use Rattle.curve_paths.specs.Twists.{exits_of, words_after}
use Rattle.curve_paths.specs.declared.named.NamedPath.{NamedPath}
use Rattle.curve_paths.specs.declared.twist.Twist.{Twist}
use Rattle.handle_slide.specs.declared.slid.Slid.{Slid}
use Rattle.witness_check.specs.OpenBook.{entries, words_on}
use Rattle.obd_doc.specs.Document.{IsBook, by_name, curve_names, twist_about}
use Rattle.obd_doc.specs.declared.book.Book.{Book}
use Rattle.obd_doc.specs.declared.book.NamedCurve.{NamedCurve}
use Rattle.obd_cli.specs.Opened.{open_book, paths_of}
use Rattle.obd_cli.specs.Words.{book_words}

-- the curves by name and crossings have the book's names
pub names_same : (curves : List NamedCurve) → map (λ (path : NamedPath). path.name) (paths_of curves) ≡ map (λ (curve : NamedCurve). curve.name) curves
names_same [] = refl
names_same (curve ∷ curves) = ap (λ names. curve.name ∷ names) (names_same curves)

-- the entries of the open book are the book's twists
pub entries_are : (book : Book) → IsBook book → entries (open_book book) ≡ book.twists
entries_are book valid =
    ap (λ (names : List (List ℕ)). map (twist_about names) (map (by_name (curve_names book)) book.twists)) (names_same book.curves) ∙ valid.first_of_name

-- so the words are those of the open book
pub book_words_are : (book : Book) (s : Slid) → IsBook book → book_words book s ≡ words_on s (open_book book)
unfolding book_words
book_words_are book s valid = ap (λ (twists : List Twist). words_after s.polygon (map exits_of s.curves) twists) (sym (entries_are book valid))
