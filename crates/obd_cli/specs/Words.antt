-- The words of a book's strands after its twist word, and the text of the command `page`.
use Rattle.std.specs.Prelude.{ℕ, List, [], ◌∷◌, ◌++◌, codes, decimal, length, map, Result}
use Rattle.page_surface.specs.Labels.{Label}
use Rattle.curve_paths.specs.Twists.{exits_of, words_after}
use Rattle.curve_paths.specs.declared.twist.TooLong.{TooLong}
use Rattle.handle_slide.specs.declared.slid.Slid.{Slid}
use Rattle.witness_check.specs.Line.{line, row_lines}
use Rattle.witness_check.specs.OpenBook.{arcs, seam_names}
use Rattle.obd_doc.specs.declared.book.Book.{Book}
use Rattle.obd_cli.specs.Refused.{refused_line}

-- the words of the book's strands on a surface, from those of the identity
unfoldable pub book_words : Book → Slid → Result (List (List ℕ)) TooLong
book_words book s = words_after s.polygon (map exits_of s.curves) book.twists

-- the lines of the seams and of the basis, and a line with the word of each strand
abbrev pub lines_of : List Label → List ℕ → List (List ℕ) → List ℕ
lines_of seams arcs words =
    line (codes "seams") (decimal (length seams) ∷ seams)
    ++ line (codes "basis") (map decimal arcs)
    ++ row_lines (codes "word") decimal words

-- the text of `page`
abbrev pub words_text : Book → Slid → List (List ℕ) → List ℕ
words_text book s words = lines_of (seam_names book.page) (arcs s.polygon) words

-- the line of words that are too long
abbrev pub long_line : TooLong → List ℕ
long_line long = refused_line 51 (codes "TooLong") [] (long.twist ∷ long.letters ∷ [])
