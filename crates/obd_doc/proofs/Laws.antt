-- What is known of a book that was read.
use Rattle.std.proofs.Common.{◌≡◌, ℕ, ◌<◌, eqb, cond, false, List, [], ◌∷◌, ◌++◌, length, map, Option, None, Some, option_map, refl, sym, subst, arith, All}
use Rattle.std.specs.Prelude.{is_none, nat_lt}
use Rattle.std.specs.Option.{option_map_or}
use Rattle.std.proofs.lemmas.Bool.{eqb-false, ltb-false}
use Rattle.std.proofs.lemmas.List.{get_or-map, length-map}
use Rattle.std.proofs.lemmas.Option.{same_Some}
use Rattle.serde_json.specs.Data.{Data}
use Rattle.page_surface.specs.Labels.{Label}
use Rattle.page_surface.specs.Page.{IsPage, refusal_of as page_refusal, refusals}
use Rattle.page_surface.specs.declared.refusal.PageRefusal.{PageRefusal}
use Rattle.page_surface.specs.declared.refusal.PageRefusal.TheVariants.{NoPolygon}
use Rattle.obd_base.proofs.Options.{each_none, fails_where_none, none_first, none_rest}
use Rattle.obd_base.specs.Options.{first_of}
use Rattle.obd_doc.specs.Document.{IsBook, all_curve_rules, book_of, book_read, book_rules, count_rules, curve_on, field_rules, fields_of, names_of, refusal_of, twist_rule, value_rules}
use Rattle.obd_doc.specs.Values.{value_of}
use Rattle.obd_doc.specs.declared.book.Book.{Book}
use Rattle.obd_doc.specs.declared.book.NamedCurve.{NamedCurve}
use Rattle.curve_paths.specs.declared.named.NamedPath.{NamedPath}
use Rattle.obd_doc.specs.declared.fields.Fields.{Fields}
use Rattle.obd_doc.specs.declared.refusal.DocRefusal.{DocRefusal}
use Rattle.obd_doc.proofs.FirstNamed.{first_named, names_kept}
use Rattle.obd_doc.specs.declared.refusal.DocRefusal.TheVariants.{Json, Page as NoPage, UnknownCurve}

-- the curves that are put on a page are on it
on_page : (page : List (List Label)) (paths : List NamedPath) → All (λ c. c.curve ≡ record { page = page; path = c.path }) (map (curve_on page) paths)
on_page page paths = λ k d l.
    let within : k < length paths = omega (arith, l, length-map paths (curve_on page)) in
    let named : NamedPath = record { name = d.name; path = d.path } in
    subst (λ (c : NamedCurve). c.curve ≡ record { page = page; path = c.path }) (sym (get_or-map (curve_on page) paths k named d within)) refl

-- where the rule of the page finds nothing, the polygons are a page
page_accepted : (refusal : Option PageRefusal) → first_of (option_map NoPage refusal ∷ []) ≡ None → refusal ≡ None
page_accepted None none = refl
page_accepted (Some refusal) none = absurd (let bad = none in cc)

pub polygons_are_page : (d : Data) → first_of (value_rules d) ≡ None → IsPage (fields_of d).polygons
polygons_are_page d none =
    let f = fields_of d in
    let book : first_of (book_rules f) ≡ None = none_rest (field_rules d ++ count_rules f) (book_rules f) none in
    page_accepted (page_refusal f.polygons) (none_first (option_map NoPage (page_refusal f.polygons) ∷ []) (all_curve_rules f.polygons [] f.curves ++ twist_rule f ∷ []) book)

-- where no rule fails, each twist names a curve
twists_name_curves : (d : Data) → first_of (value_rules d) ≡ None → twist_rule (fields_of d) ≡ None
twists_name_curves d none =
    let f = fields_of d in
    let book : first_of (book_rules f) ≡ None = none_rest (field_rules d ++ count_rules f) (book_rules f) none in
    last_none (twist_rule f) (none_rest (option_map NoPage (page_refusal f.polygons) ∷ all_curve_rules f.polygons [] f.curves) (twist_rule f ∷ []) book)
  where
    last_none : (rule : Option DocRefusal) → first_of (rule ∷ []) ≡ None → rule ≡ None
    last_none None none = refl
    last_none (Some refusal) none = absurd (let bad = none in cc)

book_is_one : (f : Fields) → IsPage f.polygons → twist_rule f ≡ None → IsBook (book_of f)
book_is_one f page known = record {
  is_page = page;
  page_is = refl;
  curves_on_page = on_page f.polygons f.curves;
  first_of_name = first_named (names_of f.curves) _ f.twists (names_kept f.polygons f.curves) (unknown_none _ known);
}
  where
    unknown_none : (found : Option ℕ) → option_map UnknownCurve found ≡ None → found ≡ None
    unknown_none None none = refl
    unknown_none (Some twist) none = absurd (let bad = none in cc)

by_value : (value : Option Data) (size : ℕ) (book : Book) → (refusal : Option DocRefusal) → option_map_or (λ d. first_of (value_rules d)) value (Some (Json size)) ≡ refusal
    → cond (is_none refusal) (option_map (λ d. book_of (fields_of d)) value) None ≡ Some book → (d : Data) × (first_of (value_rules d) ≡ None) × (book_of (fields_of d) ≡ book)
by_value (Some d) size book None none is = (d, none, same_Some _ _ is)
by_value None size book None none is = absurd (let bad = none in cc)
by_value value size book (Some refusal) found is = absurd (let bad = is in cc)

-- a book that was read is that of a value that breaks no rule
pub read_from : (bytes : List ℕ) (book : Book) → book_read bytes ≡ Some book → (d : Data) × (first_of (value_rules d) ≡ None) × (book_of (fields_of d) ≡ book)
read_from bytes book is = by_value (value_of bytes) (length bytes) book (refusal_of bytes) refl is

-- each book that was read is one whose polygons are a page, whose curves are on it, and whose twists are about curves of the book
pub read_is_book : (bytes : List ℕ) (book : Book) → book_read bytes ≡ Some book → IsBook book
read_is_book bytes book is =
    let (d, none, made) = read_from bytes book is in
    subst IsBook made (book_is_one (fields_of d) (polygons_are_page d none) (twists_name_curves d none))

-- a page of no more than one polygon has one
pub one_polygon : (page : List (List Label)) → IsPage page → nat_lt 1 (length page) ≡ false → length page ≡ 1
one_polygon page valid few =
    let rules = each_none (refusals page) valid in
    let some = eqb-false (length page) 0 (fails_where_none (eqb (length page) 0) NoPolygon rules.0) in
    omega (arith, some, ltb-false 1 (length page) few)
