-- What a document says, and the rules that it is refused by, tried in their order.
use Rattle.std.specs.Prelude.{◌≡◌, ℕ, Bool, not, nat_lt, List, [], ◌∷◌, ◌++◌, map, length, position, slice_index_or, codes, is_none, is_some, Option, None, Some, option_map, if◌then◌else◌}
use Rattle.std.specs.List.{All, list_all, list_any, position_or_len}
use Rattle.std.specs.Option.{option_map_or}
use Rattle.std.specs.Str.{bytes_eq}
use Rattle.serde_json.specs.Data.{Data}
use Rattle.serde_json.specs.Find.{as_object, get}
use Rattle.obd_base.specs.Options.{first_of, when}
use Rattle.page_surface.specs.Labels.{Label}
use Rattle.page_surface.specs.Page.{IsPage, refusal_of as page_refusal}
use Rattle.curve_paths.specs.PathRules.{refusal_of as curve_refusal}
use Rattle.curve_paths.specs.declared.twist.Twist.{Twist}
use Rattle.obd_doc.specs.Kinds.{limits, name, named_path, named_twist, slide_side, whole_from}
use Rattle.obd_doc.specs.Reading.{Kind, array_of}
use Rattle.obd_doc.specs.Values.{field_names, value_of}
use Rattle.obd_doc.specs.declared.book.Book.{Book}
use Rattle.obd_doc.specs.declared.book.NamedCurve.{NamedCurve}
use Rattle.obd_doc.specs.declared.limits.Limits.{Limits}
use Rattle.curve_paths.specs.declared.named.NamedPath.{NamedPath}
use Rattle.curve_paths.specs.declared.named.NamedTwist.{NamedTwist}
use Rattle.obd_doc.specs.declared.fields.Fields.{Fields}
use Rattle.obd_doc.specs.declared.reading.Unread.{Unread}
use Rattle.obd_doc.specs.declared.reading.Unread.TheVariants as unread
use Rattle.obd_doc.specs.declared.refusal.DocRefusal.{DocRefusal}
use Rattle.obd_doc.specs.declared.refusal.DocRefusal.TheVariants.{Json, Field, Number, TooMany, Page, RepeatedCurve, Curve, UnknownCurve, NoMemory}
use Rattle.obd_doc.specs.declared.refusal.FieldName.{FieldName}
use Rattle.obd_doc.specs.declared.refusal.FieldName.TheVariants as field

-- the refusal of a field whose value isn't read
abbrev pub refused : Unread → FieldName → DocRefusal
refused unread.Form field = Field field
refused unread.Number field = Number field
refused unread.NoMemory field = NoMemory

-- the rules of a field that has to be there: its form, and then its numbers
abbrev pub wanted : {A : Type 0} → Kind A → FieldName → Option Data → List (Option DocRefusal)
wanted kind field None = Some (Field field) ∷ []
wanted kind field (Some d) = when (not (kind.form d)) (Field field) ∷ when (not (kind.numbers d)) (Number field) ∷ []

-- those of one that may be absent
abbrev pub optional : {A : Type 0} → Kind A → FieldName → Option Data → List (Option DocRefusal)
optional kind field None = []
optional kind field (Some d) = wanted kind field (Some d)

-- what a field says, or what stands in its place where it is absent
abbrev pub said_or : {A : Type 0} → A → Kind A → Option Data → A
said_or absent kind d = option_map_or kind.says d absent

-- the kinds of the fields
abbrev pub version : Kind ℕ
version = whole_from 1 1

abbrev pub polygons : Kind (List (List Label))
polygons = array_of (array_of name)

abbrev pub curves : Kind (List NamedPath)
curves = array_of named_path

abbrev pub twists : Kind (List NamedTwist)
twists = array_of named_twist

abbrev pub slides : Kind (List ℕ)
slides = array_of slide_side

-- the name of a field of a document
abbrev pub is_field : List ℕ → Bool
is_field name = list_any (bytes_eq name) (codes "open_book" ∷ codes "polygons" ∷ codes "curves" ∷ codes "twists" ∷ codes "slides" ∷ codes "limits" ∷ [])

-- a document is an object with no other fields
abbrev pub shape_rules : Data → List (Option DocRefusal)
shape_rules d = when (not (is_some (as_object d))) (Field field.Top) ∷ when (not (list_all is_field (field_names d))) (Field field.Other) ∷ []

-- the rules of the fields, each field's before the next one's
abbrev pub field_rules : Data → List (Option DocRefusal)
field_rules d =
    shape_rules d
    ++ wanted version field.OpenBook (get (codes "open_book") d)
    ++ wanted polygons field.Polygons (get (codes "polygons") d)
    ++ wanted curves field.Curves (get (codes "curves") d)
    ++ wanted twists field.Twists (get (codes "twists") d)
    ++ optional slides field.Slides (get (codes "slides") d)
    ++ optional limits field.Limits (get (codes "limits") d)

-- the limits that are taken where none are given
abbrev pub default_limits : Limits
default_limits = record { moves = 20000; generators = 20000 }

-- what the fields say
abbrev pub fields_of : Data → Fields
fields_of d = record {
  polygons = said_or [] polygons (get (codes "polygons") d);
  curves = said_or [] curves (get (codes "curves") d);
  twists = said_or [] twists (get (codes "twists") d);
  slides = said_or [] slides (get (codes "slides") d);
  limits = said_or default_limits limits (get (codes "limits") d);
}

-- at most 32 curves, 256 twists and 64 slides
abbrev pub count_rules : Fields → List (Option DocRefusal)
count_rules f =
    when (nat_lt 32 (length f.curves)) (TooMany field.Curves (length f.curves))
    ∷ when (nat_lt 256 (length f.twists)) (TooMany field.Twists (length f.twists))
    ∷ when (nat_lt 64 (length f.slides)) (TooMany field.Slides (length f.slides))
    ∷ []

-- the curves' names
abbrev pub names_of : List NamedPath → List (List ℕ)
names_of curves = map (λ curve. curve.name) curves

-- a curve has a name of its own, and its path is a curve on the page
abbrev pub curve_rules : List (List Label) → List (List ℕ) → NamedPath → List (Option DocRefusal)
curve_rules page before curve =
    when (list_any (bytes_eq curve.name) before) (RepeatedCurve curve.name)
    ∷ option_map (Curve curve.name) (curve_refusal page curve.path)
    ∷ []

-- the curves' rules, curve by curve, after those with these names
abbrev pub all_curve_rules : List (List Label) → List (List ℕ) → List NamedPath → List (Option DocRefusal)
all_curve_rules page before [] = []
all_curve_rules page before (curve ∷ curves) = curve_rules page before curve ++ all_curve_rules page (before ++ curve.name ∷ []) curves

-- each twist names a curve; the first that doesn't is named
abbrev pub twist_rule : Fields → Option DocRefusal
twist_rule f = option_map UnknownCurve (position (λ twist. not (list_any (bytes_eq twist.name) (names_of f.curves))) f.twists)

-- the rules of the book that the fields give
abbrev pub book_rules : Fields → List (Option DocRefusal)
book_rules f =
    option_map Page (page_refusal f.polygons)
    ∷ all_curve_rules f.polygons [] f.curves
    ++ twist_rule f ∷ []

-- all rules of a value
abbrev pub value_rules : Data → List (Option DocRefusal)
value_rules d = field_rules d ++ count_rules (fields_of d) ++ book_rules (fields_of d)

-- the first rule that fails, if one does
abbrev pub refusal_of : List ℕ → Option DocRefusal
refusal_of bytes = option_map_or (λ d. first_of (value_rules d)) (value_of bytes) (Some (Json (length bytes)))

-- a curve of the book
abbrev pub curve_on : List (List Label) → NamedPath → NamedCurve
curve_on page curve = record { name = curve.name; path = curve.path; curve = record { page = page; path = curve.path } }

-- a twist about a curve by its number
abbrev pub twist_about : List (List ℕ) → NamedTwist → Twist
twist_about names twist = record { curve = position_or_len (bytes_eq twist.name) names; power = twist.power }

-- the book that the fields give
abbrev pub book_of : Fields → Book
book_of f = record {
  polygons = f.polygons;
  page = f.polygons;
  curves = map (curve_on f.polygons) f.curves;
  twists = map (twist_about (names_of f.curves)) f.twists;
  slides = f.slides;
  limits = f.limits;
}

-- the book of the bytes, where no rule fails
abbrev pub book_read : List ℕ → Option Book
book_read bytes = if is_none (refusal_of bytes) then option_map (λ d. book_of (fields_of d)) (value_of bytes) else None

-- the names of a book's curves
abbrev pub curve_names : Book → List (List ℕ)
curve_names book = map (λ curve. curve.name) book.curves

-- a twist by the name of its curve
abbrev pub by_name : List (List ℕ) → Twist → NamedTwist
by_name names twist = record { name = slice_index_or names twist.curve []; power = twist.power }

-- what is known of a book that was read: its polygons are a page, each curve is one on that page, and each twist is about the
-- first curve of its name
pub record IsBook (book : Book) : Type 0 where
  pub is_page : IsPage book.page
  pub page_is : book.page ≡ book.polygons
  pub curves_on_page : All (λ c. c.curve ≡ record { page = book.page; path = c.path }) book.curves
  pub first_of_name : map (twist_about (curve_names book)) (map (by_name (curve_names book)) book.twists) ≡ book.twists
