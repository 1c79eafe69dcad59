-- What the lines of a certificate write: a book, and on its surface the words and the drawings.
use Rattle.std.specs.Prelude.{ℕ, List, [], take, Result}
use Rattle.std.specs.Result.{result_unwrap_or}
use Rattle.page_surface.specs.Drawing.{Drawing}
use Rattle.page_surface.specs.Polygon.{Polygon}
use Rattle.curve_paths.specs.declared.named.NamedTwist.{NamedTwist}
use Rattle.curve_paths.specs.declared.twist.TooLong.{TooLong}
use Rattle.drawing.specs.Fingers.{replayed}
use Rattle.handle_slide.specs.Slides.{slid}
use Rattle.handle_slide.specs.declared.refusal.RefusedSlide.{RefusedSlide}
use Rattle.handle_slide.specs.declared.slid.Slid.{Slid}
use Rattle.witness_check.specs.OpenBook.{OpenBook, joined_surface, surface_of, words_on}
use Rattle.witness_check.specs.declared.certificate.Certificate.{Certificate}

-- the book of the certificate's own lines
abbrev pub own_book : Certificate → OpenBook
own_book c = record { page = c.polygons; curves = c.curves; slides = c.slides; twists = c.twists }

-- what some slides leave of the joined page
abbrev pub slid_by : Certificate → List ℕ → Result Slid RefusedSlide
slid_by c slides = slid 0 (joined_surface (own_book c)) slides

-- the polygon and the curves after all slides; those before where a slide is refused
abbrev pub surface : Certificate → Slid
surface c = result_unwrap_or (surface_of (own_book c)) (joined_surface (own_book c))

-- the polygon after all slides
abbrev pub polygon : Certificate → Polygon
polygon c = (surface c).polygon

-- the words of the strands after some entries of a twist word along the certificate's curves
abbrev pub words_by : Certificate → List NamedTwist → Result (List (List ℕ)) TooLong
words_by c twists = words_on (surface c) (record { page = c.polygons; curves = c.curves; slides = c.slides; twists = twists })

-- the words after all entries, none where they are too long
abbrev pub last_words : Certificate → List (List ℕ)
last_words c = result_unwrap_or (words_by c c.twists) []

-- the drawing of the strand lines
abbrev pub first_drawing : Certificate → Drawing
first_drawing c = record { polygon = polygon c; strands = c.strands }

-- the drawing after the first so many fingers
abbrev pub drawing_after : Certificate → ℕ → Drawing
drawing_after c k = replayed (first_drawing c) (take k c.fingers)

-- the drawing after all fingers
abbrev pub last_drawing : Certificate → Drawing
last_drawing c = replayed (first_drawing c) c.fingers
