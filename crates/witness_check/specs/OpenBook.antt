-- An open book, and the polygon, the curves and the words that it gives.
use Rattle.std.specs.Prelude.{◌≡◌, ℕ, ◌≤◌, ◌<◌, ◌^◌, true, List, [], map, length, slice_index_or, All, Ok, Result, unsigned_abs}
use Rattle.std.specs.List.{position_or_len}
use Rattle.std.specs.Str.{bytes_eq}
use Rattle.obd_base.specs.Lists.{Mem, Once, below}
use Rattle.page_surface.specs.Joining.{joined, page_polygon}
use Rattle.page_surface.specs.Labels.{Label, labels_of}
use Rattle.page_surface.specs.Page.{IsPage}
use Rattle.page_surface.specs.Polygon.{Polygon, arc, sides}
use Rattle.curve_paths.specs.PathRules.{IsPath}
use Rattle.curve_paths.specs.PathTables.{HaveOccurrences}
use Rattle.curve_paths.specs.Through.{exits_through}
use Rattle.curve_paths.specs.Twists.{exits_of, words_after}
use Rattle.curve_paths.specs.declared.named.NamedPath.{NamedPath}
use Rattle.curve_paths.specs.declared.named.NamedTwist.{NamedTwist}
use Rattle.curve_paths.specs.declared.twist.TooLong.{TooLong}
use Rattle.curve_paths.specs.declared.twist.Twist.{Twist}
use Rattle.handle_slide.specs.Slide.{some_curve}
use Rattle.handle_slide.specs.Slides.{slid}
use Rattle.handle_slide.specs.declared.refusal.RefusedSlide.{RefusedSlide}
use Rattle.handle_slide.specs.declared.slid.Slid.{Slid}
use Rattle.witness_check.specs.Reading.{is_name}

-- a page, curves on it by name, slides along sides, one after another, and the twist word, whose first entry is applied first
pub record OpenBook : Type 0 where
  pub page : List (List Label)
  pub curves : List NamedPath
  pub slides : List ℕ
  pub twists : List NamedTwist

-- the page joined, and the book's curves on it, none where a curve crosses seams alone
abbrev pub joined_surface : OpenBook → Slid
joined_surface book = record { polygon = page_polygon book.page; curves = map (λ curve. some_curve (exits_through book.page curve.path)) book.curves }

-- the polygon and the curves after the book's slides, or the first slide that is refused
abbrev pub surface_of : OpenBook → Result Slid RefusedSlide
surface_of book = slid 0 (joined_surface book) book.slides

-- the book's slides are accepted, and leave this surface
abbrev pub IsSurface : OpenBook → Slid → Type 0
IsSurface book s = surface_of book ≡ Ok s

-- the names of the labels that become seams
abbrev pub seam_names : List (List Label) → List Label
seam_names page = map (λ label. slice_index_or (labels_of page) label []) (joined page).seams

-- the arcs of a polygon's sides
abbrev pub arcs : Polygon → List ℕ
arcs p = map (arc p) (below (sides p))

-- the names of the curves
abbrev pub curve_names : OpenBook → List (List ℕ)
curve_names book = map (λ curve. curve.name) book.curves

-- a word that may stand as a name in a line
abbrev pub IsName : List ℕ → Type 0
IsName word = is_name word ≡ true

-- a curve on a page: its name may be written, its crossings leave by occurrence 0 or 1, and the page takes its path
pub record IsCurveOn (page : List (List Label)) (curve : NamedPath) : Type 0 where
  pub named : IsName curve.name
  pub occurrences : HaveOccurrences curve.path
  pub path : IsPath page curve.path

-- an entry of the twist word: along a curve of the book, by a power from -64 to 64 that isn't 0
pub record IsTwistOf (book : OpenBook) (twist : NamedTwist) : Type 0 where
  pub known : Mem twist.name (curve_names book)
  pub some_power : 1 ≤ unsigned_abs twist.power
  pub most_power : unsigned_abs twist.power ≤ 64

-- an open book that keeps the rules and the limits
pub record IsOpenBook (book : OpenBook) : Type 0 where
  -- a page, of 1 to 16 polygons, by names
  pub page : IsPage book.page
  pub labels : All (All IsName) book.page
  -- at most 32 curves on it, of different names
  pub few_curves : length book.curves ≤ 32
  pub curves : All (IsCurveOn book.page) book.curves
  pub different : Once (curve_names book)
  -- at most 64 slides, at sides by their numbers
  pub few_slides : length book.slides ≤ 64
  pub slides : All (λ side. side < 2 ^ 32) book.slides
  -- at most 256 twists
  pub few_twists : length book.twists ≤ 256
  pub twists : All (IsTwistOf book) book.twists

-- the twist word by the numbers of the curves, each the first one of its name
abbrev pub entries : OpenBook → List Twist
entries book = map (λ twist. record { curve = position_or_len (bytes_eq twist.name) (curve_names book); power = twist.power }) book.twists

-- the words of the strands after the twist word
abbrev pub words_on : Slid → OpenBook → Result (List (List ℕ)) TooLong
words_on s book = words_after s.polygon (map exits_of s.curves) (entries book)
