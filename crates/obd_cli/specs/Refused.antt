-- The lines of refusals: `refused`, a code, a name and the values that the rule keeps. And the lines of limits.
use Rattle.std.specs.Prelude.{ℕ, List, [], ◌∷◌, ◌++◌, codes, decimal, map, slice_index_or}
use Rattle.curve_paths.specs.declared.refusal.CurveRefusal.{CurveRefusal}
use Rattle.curve_paths.specs.declared.refusal.CurveRefusal.TheVariants as curve
use Rattle.handle_slide.specs.declared.refusal.RefusedSlide.{RefusedSlide}
use Rattle.handle_slide.specs.declared.refusal.SlideRefusal.{SlideRefusal}
use Rattle.handle_slide.specs.declared.refusal.SlideRefusal.TheVariants as slide
use Rattle.witness_check.specs.Line.{line}
use Rattle.obd_doc.specs.declared.refusal.DocRefusal.{DocRefusal}
use Rattle.obd_doc.specs.declared.refusal.DocRefusal.TheVariants as doc
use Rattle.obd_doc.specs.declared.refusal.FieldName.{FieldName}
use Rattle.obd_doc.specs.declared.refusal.FieldName.TheVariants as field
use Rattle.page_surface.specs.declared.refusal.PageRefusal.{PageRefusal}
use Rattle.page_surface.specs.declared.refusal.PageRefusal.TheVariants as page

-- the words come before the numbers
abbrev pub refused_line : ℕ → List ℕ → List (List ℕ) → List ℕ → List ℕ
refused_line code name words numbers = line (codes "refused") (decimal code ∷ name ∷ words ++ map decimal numbers)

-- the word for a field
abbrev pub field_word : FieldName → List ℕ
field_word field.Top = codes "top"
field_word field.Other = codes "other"
field_word field.OpenBook = codes "open_book"
field_word field.Polygons = codes "polygons"
field_word field.Curves = codes "curves"
field_word field.Twists = codes "twists"
field_word field.Slides = codes "slides"
field_word field.Limits = codes "limits"

-- the line of a page's refusal
abbrev pub page_line : PageRefusal → List ℕ
page_line page.NoPolygon = refused_line 11 (codes "NoPolygon") [] []
page_line (page.TooManyPolygons count) = refused_line 12 (codes "TooManyPolygons") [] (count ∷ [])
page_line (page.EmptyPolygon polygon) = refused_line 13 (codes "EmptyPolygon") [] (polygon ∷ [])
page_line (page.TooManyLabels count) = refused_line 14 (codes "TooManyLabels") [] (count ∷ [])
page_line (page.LabelCount label count) = refused_line 15 (codes "LabelCount") (label ∷ []) (count ∷ [])
page_line (page.NotJoined reached all) = refused_line 16 (codes "NotJoined") [] (reached ∷ all ∷ [])
page_line (page.TooManyArcs arcs) = refused_line 17 (codes "TooManyArcs") [] (arcs ∷ [])
page_line page.DiskPage = refused_line 18 (codes "DiskPage") [] []
page_line page.NoMemory = []

-- the line of a curve's refusal, with the curve's name
abbrev pub curve_line : List ℕ → CurveRefusal → List ℕ
curve_line name curve.EmptyPath = refused_line 22 (codes "EmptyPath") (name ∷ []) []
curve_line name (curve.UnknownLabel at) = refused_line 23 (codes "UnknownLabel") (name ∷ []) (at ∷ [])
curve_line name (curve.TooManyCrossings count) = refused_line 24 (codes "TooManyCrossings") (name ∷ []) (count ∷ [])
curve_line name (curve.PlaceWrong label) = refused_line 25 (codes "PlaceWrong") (name ∷ label ∷ []) []
curve_line name (curve.NotAdjacent at) = refused_line 26 (codes "NotAdjacent") (name ∷ []) (at ∷ [])
curve_line name (curve.Crosses first second) = refused_line 27 (codes "Crosses") (name ∷ []) (first ∷ second ∷ [])
curve_line name curve.NoMemory = []

-- the line of a document's refusal; want of memory has none
abbrev pub doc_line : DocRefusal → List ℕ
doc_line (doc.Json bytes) = refused_line 2 (codes "Json") [] (bytes ∷ [])
doc_line (doc.Field name) = refused_line 3 (codes "Field") (field_word name ∷ []) []
doc_line (doc.Number name) = refused_line 4 (codes "Number") (field_word name ∷ []) []
doc_line (doc.TooMany name count) = refused_line 5 (codes "Limits") (field_word name ∷ []) (count ∷ [])
doc_line (doc.Page refusal) = page_line refusal
doc_line (doc.RepeatedCurve name) = refused_line 21 (codes "RepeatedCurve") (name ∷ []) []
doc_line (doc.Curve name refusal) = curve_line name refusal
doc_line (doc.UnknownCurve twist) = refused_line 31 (codes "UnknownCurve") [] (twist ∷ [])
doc_line doc.NoMemory = []

-- the line of a slide that is refused, with the slide's number and side; that of a curve has the curve's name
abbrev pub reason_line : List (List ℕ) → ℕ → ℕ → SlideRefusal → List ℕ
reason_line names number side slide.NoSuchSide = refused_line 41 (codes "NoSuchSide") [] (number ∷ side ∷ [])
reason_line names number side slide.SelfSlide = refused_line 42 (codes "SelfSlide") [] (number ∷ side ∷ [])
reason_line names number side (slide.SlideCrossings curve count) = refused_line 43 (codes "SlideCrossings") (decimal number ∷ slice_index_or names curve [] ∷ []) (count ∷ [])
reason_line names number side slide.NoMemory = []

abbrev pub slide_line : List (List ℕ) → RefusedSlide → List ℕ
slide_line names refused = reason_line names refused.slide refused.side refused.reason

-- the line that there are more generators than a limit, with the limit and one
abbrev pub limit_line : ℕ → List ℕ
limit_line over = line (codes "generator-limit") (decimal over ∷ [])

-- the line that the strategy takes more fingers than a limit, with the limit and the weight that is left
abbrev pub budget_line : ℕ → ℕ → List ℕ
budget_line limit left = line (codes "move-budget") (map decimal (limit ∷ left ∷ []))
