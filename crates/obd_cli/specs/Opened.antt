-- The open book of a document.
use Rattle.std.specs.Prelude.{ℕ, List, [], map, slice_index_or}
use Rattle.page_surface.specs.Labels.{Label, labels_of}
use Rattle.curve_paths.specs.declared.named.NamedPath.{NamedPath}
use Rattle.curve_paths.specs.declared.named.NamedTwist.{NamedTwist}
use Rattle.witness_check.specs.OpenBook.{OpenBook}
use Rattle.obd_doc.specs.Document.{by_name, curve_names}
use Rattle.obd_doc.specs.declared.book.Book.{Book}
use Rattle.obd_doc.specs.declared.book.NamedCurve.{NamedCurve}

-- the curves by name and crossings
abbrev pub paths_of : List NamedCurve → List NamedPath
paths_of curves = map (λ curve. record { name = curve.name; path = curve.path }) curves

-- the twist word by the names of the curves
abbrev pub named_twists : Book → List NamedTwist
named_twists book = map (by_name (curve_names book)) book.twists

-- its page, curves, slides and twist word
abbrev pub open_book : Book → OpenBook
open_book book = record { page = book.page; curves = paths_of book.curves; slides = book.slides; twists = named_twists book }

-- the names of some labels
abbrev pub names_of : List (List Label) → List ℕ → List Label
names_of page labels = map (λ label. slice_index_or (labels_of page) label []) labels
