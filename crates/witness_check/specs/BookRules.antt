-- The rules of the lines from the polygons to the twists, for any certificate that begins with some such lines.
use Rattle.std.specs.Prelude.{◌≡◌, ◌<◌, ◌≤◌, ℕ, Bool, true, false, not, nat_le, ◌&&◌, List, [], ◌++◌, length, map, slice_index_or, Option, Ok, Result}
use Rattle.std.specs.List.{list_any, position_or_len}
use Rattle.std.specs.Option.{is_none}
use Rattle.std.specs.Str.{bytes_eq}
use Rattle.obd_base.specs.declared.points.Exit.{Exit}
use Rattle.page_surface.specs.Joining.{page_polygon}
use Rattle.page_surface.specs.Labels.{Label, labels_of}
use Rattle.curve_paths.specs.PathRules.{refusal_of as path_refusal}
use Rattle.curve_paths.specs.PathTables.{PagePath}
use Rattle.curve_paths.specs.Through.{exits_through}
use Rattle.curve_paths.specs.Twists.{exits_of, words_after}
use Rattle.curve_paths.specs.declared.named.NamedPath.{NamedPath}
use Rattle.curve_paths.specs.declared.named.NamedTwist.{NamedTwist}
use Rattle.curve_paths.specs.declared.twist.TooLong.{TooLong}
use Rattle.curve_paths.specs.declared.twist.Twist.{Twist}
use Rattle.handle_slide.specs.Slide.{some_curve}
use Rattle.handle_slide.specs.declared.slid.Slid.{Slid}
use Rattle.witness_check.specs.declared.certificate.Certificate.{Certificate}
use Rattle.witness_check.specs.declared.fault.Fault.{Fault}
use Rattle.witness_check.specs.Checked.{first_fault}
use Rattle.witness_check.specs.Rules.{curve_rules, each, is_power, polygon_rules, slide_rules, twist_rules}
use Rattle.witness_check.specs.Written.{slid_by, surface, words_by}

-- a polygon has no more sides than a page
abbrev pub is_narrow : List Label → Bool
is_narrow polygon = nat_le (length polygon) 48

-- what the rules of all polygon lines come to in any certificate that has just these polygons
abbrev pub PolygonsCome : List (List Label) → Option Fault → Type 0
PolygonsCome polygons fault = (c : Certificate) → c.polygons ≡ polygons → first_fault (each (polygon_rules c) polygons) ≡ fault

-- some curve has the name
abbrev pub is_curve_name : List NamedPath → List ℕ → Bool
is_curve_name curves name = list_any (λ curve. bytes_eq name curve.name) curves

-- a curve has another name than those before, and is a curve on the page
abbrev pub is_new_curve : List (List Label) → List NamedPath → NamedPath → Bool
is_new_curve page before curve = not (is_curve_name before curve.name) && is_none (path_refusal page curve.path)

-- the curves of some lines, each on the page
abbrev pub on_page : List (List Label) → List NamedPath → List PagePath
on_page page curves = map (λ curve. record { page = page; path = curve.path }) curves

-- what the rules of some curve lines come to in any certificate that has the page and begins with these curves
abbrev pub CurvesCome : List (List Label) → List NamedPath → Option Fault → Type 0
CurvesCome page curves fault =
    (c : Certificate) (more : List NamedPath) → c.polygons ≡ page → c.curves ≡ curves ++ more → first_fault (each (curve_rules c) curves) ≡ fault

-- curves on the polygon that their page is joined to, none where a curve crosses seams alone
abbrev pub joined_curves : List PagePath → List (Option (List Exit))
joined_curves curves = map (λ curve. some_curve (exits_through curve.page curve.path)) curves

-- a page joined, and its curves
abbrev pub joined_with : List (List Label) → List PagePath → Slid
joined_with page curves = record { polygon = page_polygon page; curves = joined_curves curves }

-- what the rules of some slide lines come to in any certificate that has the page and the curves, and begins with these slides
abbrev pub SlidesCome : List (List Label) → List PagePath → List ℕ → Option Fault → Type 0
SlidesCome page curves slides fault =
    (c : Certificate) (more : List ℕ) → c.polygons ≡ page → on_page page c.curves ≡ curves → c.slides ≡ slides ++ more
    → first_fault (each (slide_rules c) slides) ≡ fault

-- what some slides leave in any certificate that has the page and the curves
abbrev pub SlidesLeave : List (List Label) → List PagePath → List ℕ → Slid → Type 0
SlidesLeave page curves slides s = (c : Certificate) → c.polygons ≡ page → on_page page c.curves ≡ curves → slid_by c slides ≡ Ok s

-- an entry of a twist word has a curve's name, and a power
abbrev pub is_entry : List NamedPath → NamedTwist → Bool
is_entry curves twist = is_curve_name curves twist.name && is_power twist.power

-- the first so many entries are ones, and the next isn't
pub record AreEntries (curves : List NamedPath) (twists : List NamedTwist) (n : ℕ) : Type 0 where
  pub within : n ≤ length twists
  pub before : (i : ℕ) (d : NamedTwist) → i < n → is_entry curves (slice_index_or twists i d) ≡ true
  pub next : (d : NamedTwist) → n < length twists → is_entry curves (slice_index_or twists n d) ≡ false

-- the number of the first curve with a name, or how many curves there are
abbrev pub curve_number : List NamedPath → List ℕ → ℕ
curve_number curves name = position_or_len (λ curve. bytes_eq name curve.name) curves

-- some entries by the numbers of their curves
abbrev pub numbered : List NamedPath → List NamedTwist → List Twist
numbered curves twists = map (λ twist. record { curve = curve_number curves twist.name; power = twist.power }) twists

-- the words on a surface after some entries
abbrev pub words_of : Slid → List NamedPath → List NamedTwist → Result (List (List ℕ)) TooLong
words_of s curves twists = words_after s.polygon (map exits_of s.curves) (numbered curves twists)

-- what the rules of some twist lines come to in any certificate that has the surface and the curves, and begins with these entries
abbrev pub TwistsCome : Slid → List NamedPath → List NamedTwist → Option Fault → Type 0
TwistsCome s curves twists fault =
    (c : Certificate) (more : List NamedTwist) → surface c ≡ s → c.curves ≡ curves → c.twists ≡ twists ++ more → first_fault (each (twist_rules c) twists) ≡ fault

-- the words after some entries in any certificate that has the surface and the curves
abbrev pub WordsAre : Slid → List NamedPath → List NamedTwist → List (List ℕ) → Type 0
WordsAre s curves twists words = (c : Certificate) → surface c ≡ s → c.curves ≡ curves → words_by c twists ≡ Ok words

-- the names of some labels of a page
abbrev pub label_names : List (List Label) → List ℕ → List Label
label_names page labels = map (λ label. slice_index_or (labels_of page) label []) labels
