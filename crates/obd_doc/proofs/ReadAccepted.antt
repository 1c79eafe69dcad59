-- A book that was read keeps all rules.
use Rattle.std.proofs.Common.{◌≡◌, ℕ, zero, suc, ◌<◌, ◌≤◌, Bool, true, false, not, List, [], ◌∷◌, ◌++◌, map, length, position, Option, None, Some, option_map, inl, inr, refl, sym, ◌∙◌, subst, arith, All, ltb}
use Rattle.std.specs.List.{list_any, position_or_len}
use Rattle.std.specs.Str.{bytes_eq}
use Rattle.std.proofs.lemmas.Bool.{false≢true, ltb-false, or_parts}
use Rattle.std.proofs.lemmas.List.{length-map}
use Rattle.std.proofs.lemmas.Slice.Eq.{bytes_eq-Decides}
use Rattle.serde_json.specs.Data.{Data}
use Rattle.serde_json.specs.Find.{get}
use Rattle.std.specs.Prelude.{codes}
use Rattle.obd_base.specs.Lists.{Mem, Once}
use Rattle.obd_base.specs.Options.{first_of, when}
use Rattle.obd_base.proofs.Options.{each_none, fails_where_none, none_first, none_mapped, none_rest}
use Rattle.obd_base.proofs.lists.Members.{mem_left, mem_right}
use Rattle.page_surface.specs.Labels.{Label}
use Rattle.page_surface.specs.Page.{IsPage, refusal_of as page_refusal}
use Rattle.curve_paths.specs.PathRules.{IsPath, refusal_of as curve_refusal}
use Rattle.curve_paths.specs.declared.named.NamedPath.{NamedPath}
use Rattle.curve_paths.specs.declared.named.NamedTwist.{NamedTwist}
use Rattle.obd_doc.specs.Accepted.{IsAccepted, IsCurveOf, IsEntryOf, IsName, IsTwistPower}
use Rattle.obd_doc.specs.Document.{all_curve_rules, book_of, book_read, book_rules, count_rules, curve_on, curve_rules, curves, field_rules, fields_of, names_of, optional, polygons, shape_rules, slides, twist_about, twist_rule, twists, version, wanted}
use Rattle.obd_doc.specs.Kinds.{limits}
use Rattle.obd_doc.specs.declared.book.Book.{Book}
use Rattle.obd_doc.specs.declared.fields.Fields.{Fields}
use Rattle.obd_doc.specs.declared.refusal.DocRefusal.{DocRefusal}
use Rattle.obd_doc.specs.declared.refusal.DocRefusal.TheVariants.{Curve, Page as NoPage, RepeatedCurve, UnknownCurve}
use Rattle.obd_doc.specs.declared.refusal.FieldName.TheVariants as field
use Rattle.obd_doc.proofs.FirstNamed.{names_kept}
use Rattle.obd_doc.proofs.Laws.{polygons_are_page, read_from}
use Rattle.obd_doc.proofs.Said.{IsNamedPath, curves_say, field_says, optional_says, polygons_say, slides_say, twists_say}
use Rattle.obd_doc.proofs.TwistsSoFar.{before_end, is_unknown, no_place}

-- what holds of what some items are mapped to
pub all_mapped : {A B : Type 0} (P : B → Type 0) (f : A → B) (xs : List A) → All (λ x. P (f x)) xs → All P (map f xs)
all_mapped P f [] each k d l = absurd (omega (arith, l))
all_mapped P f (x ∷ xs) each zero d l = each 0 x (omega arith)
all_mapped P f (x ∷ xs) each (suc k) d l = all_mapped P f xs (λ i e within. each (suc i) e (omega (arith, within))) k d (omega (arith, l))

-- a name that equals none of some names isn't among them
not_among : (name : List ℕ) (names : List (List ℕ)) → list_any (bytes_eq name) names ≡ false → Mem name names → ⊥
not_among name [] none in_none = absurd in_none
not_among name (x ∷ names) none (inl same) = false≢true (sym (or_parts (bytes_eq name x) (list_any (bytes_eq name) names) none).0 ∙ (bytes_eq-Decides name x).1 same)
not_among name (x ∷ names) none (inr later) = not_among name names (or_parts (bytes_eq name x) (list_any (bytes_eq name) names) none).1 later

-- where a curve's rules find nothing, its name is a new one, and its path is taken
curve_holds : (page : List (List Label)) (before : List (List ℕ)) (curve : NamedPath) → first_of (curve_rules page before curve) ≡ None
    → (list_any (bytes_eq curve.name) before ≡ false) × IsPath page curve.path
curve_holds page before curve none =
    let rules = each_none (curve_rules page before curve) none in (
      fails_where_none (list_any (bytes_eq curve.name) before) (RepeatedCurve curve.name) rules.0,
      none_mapped (Curve curve.name) (curve_refusal page curve.path) rules.1.0,
    )

module _ (page : List (List Label)) where
  -- where those of all curves find nothing, no curve has a name from before,
  no_older : (before : List (List ℕ)) (paths : List NamedPath) → first_of (all_curve_rules page before paths) ≡ None → (name : List ℕ) → Mem name before → Mem name (names_of paths) → ⊥
  no_older before [] none name old in_none = absurd in_none
  no_older before (curve ∷ paths) none name old (inl same) =
      not_among curve.name before (curve_holds page before curve (none_first (curve_rules page before curve) (all_curve_rules page (before ++ curve.name ∷ []) paths) none)).0
      (subst (λ n. Mem n before) same old)
  no_older before (curve ∷ paths) none name old (inr later) =
      no_older (before ++ curve.name ∷ []) paths (none_rest (curve_rules page before curve) (all_curve_rules page (before ++ curve.name ∷ []) paths) none)
      name (mem_left name before (curve.name ∷ []) old) later

  -- nor that of another,
  names_once : (before : List (List ℕ)) (paths : List NamedPath) → first_of (all_curve_rules page before paths) ≡ None → Once (names_of paths)
  names_once before [] none = tt
  names_once before (curve ∷ paths) none =
      let rest = none_rest (curve_rules page before curve) (all_curve_rules page (before ++ curve.name ∷ []) paths) none in (
        no_older (before ++ curve.name ∷ []) paths rest curve.name (mem_right curve.name before (curve.name ∷ []) (inl refl)),
        names_once (before ++ curve.name ∷ []) paths rest,
      )

  -- and the page takes each path
  paths_taken : (before : List (List ℕ)) (paths : List NamedPath) → first_of (all_curve_rules page before paths) ≡ None → All (λ curve. IsPath page curve.path) paths
  paths_taken before [] none k d l = absurd (omega (arith, l))
  paths_taken before (curve ∷ paths) none zero d l =
      (curve_holds page before curve (none_first (curve_rules page before curve) (all_curve_rules page (before ++ curve.name ∷ []) paths) none)).1
  paths_taken before (curve ∷ paths) none (suc k) d l =
      paths_taken (before ++ curve.name ∷ []) paths (none_rest (curve_rules page before curve) (all_curve_rules page (before ++ curve.name ∷ []) paths) none) k d (omega (arith, l))

-- each entry of a twist word names a curve
known_curves : (names : List (List ℕ)) (entries : List NamedTwist) → list_any (is_unknown names) entries ≡ false → All (λ twist. position_or_len (bytes_eq twist.name) names < length names) entries
known_curves names [] known k d l = absurd (omega (arith, l))
known_curves names (entry ∷ entries) known zero d l =
    before_end (bytes_eq entry.name) names (not_false _ (or_parts (is_unknown names entry) (list_any (is_unknown names) entries) known).0)
  where
    not_false : (b : Bool) → not b ≡ false → b ≡ true
    not_false true is = refl
    not_false false is = absurd (let bad = is in cc)
known_curves names (entry ∷ entries) known (suc k) d l =
    known_curves names entries (or_parts (is_unknown names entry) (list_any (is_unknown names) entries) known).1 k d (omega (arith, l))

-- a number that isn't too many
at_most : (most count : ℕ) (too_many : DocRefusal) → when (ltb most count) too_many ≡ None → count ≤ most
at_most most count too_many none = ltb-false most count (fails_where_none (ltb most count) too_many none)

-- none of four stages among seven finds anything
four_of_seven : (a b c d e f g : List (Option DocRefusal)) → first_of (a ++ b ++ c ++ d ++ e ++ f ++ g) ≡ None
    → (first_of c ≡ None) × (first_of d ≡ None) × (first_of e ≡ None) × (first_of f ≡ None)
four_of_seven a b c d e f g none =
    let to_f = none_first (a ++ b ++ c ++ d ++ e ++ f) g none in
    let to_e = none_first (a ++ b ++ c ++ d ++ e) f to_f in
    let to_d = none_first (a ++ b ++ c ++ d) e to_e in (
      none_rest (a ++ b) c (none_first (a ++ b ++ c) d to_d),
      none_rest (a ++ b ++ c) d to_d,
      none_rest (a ++ b ++ c ++ d) e to_e,
      none_rest (a ++ b ++ c ++ d ++ e) f to_f,
    )

-- what the fields of a value say, where no rule of a field fails
record FieldsHold (f : Fields) : Type 0 where
  polygons : All (All IsName) f.polygons
  curves : All IsNamedPath f.curves
  powers : All (λ twist. IsTwistPower twist.power) f.twists
  slides : All (λ side. side ≤ 15) f.slides

fields_hold : (d : Data) → first_of (field_rules d) ≡ None → FieldsHold (fields_of d)
fields_hold d none =
    let at = λ (name : List ℕ). get name d in
    let rules = four_of_seven (shape_rules d) (wanted version field.OpenBook (at (codes "open_book"))) (wanted polygons field.Polygons (at (codes "polygons")))
    (wanted curves field.Curves (at (codes "curves"))) (wanted twists field.Twists (at (codes "twists"))) (optional slides field.Slides (at (codes "slides")))
    (optional limits field.Limits (at (codes "limits"))) none in
    record {
      polygons = field_says (All (All IsName)) polygons polygons_say field.Polygons (at (codes "polygons")) [] rules.0;
      curves = field_says (All IsNamedPath) curves curves_say field.Curves (at (codes "curves")) [] rules.1;
      powers = field_says (All (λ twist. IsTwistPower twist.power)) twists twists_say field.Twists (at (codes "twists")) [] rules.2;
      slides = optional_says (All (λ side. side ≤ 15)) slides slides_say field.Slides (at (codes "slides")) [] (λ k e l. absurd (omega (arith, l))) rules.3;
    }

-- what the rules of a book say of its curves and of its twist word
curves_unrefused : (f : Fields) → first_of (book_rules f) ≡ None → first_of (all_curve_rules f.polygons [] f.curves) ≡ None
curves_unrefused f none =
    let page_rule = option_map NoPage (page_refusal f.polygons) ∷ [] in
    none_rest page_rule (all_curve_rules f.polygons [] f.curves) (none_first (page_rule ++ all_curve_rules f.polygons [] f.curves) (twist_rule f ∷ []) none)

twists_unrefused : (f : Fields) → first_of (book_rules f) ≡ None → list_any (is_unknown (names_of f.curves)) f.twists ≡ false
twists_unrefused f none =
    let rule = each_none (twist_rule f ∷ []) (none_rest (option_map NoPage (page_refusal f.polygons) ∷ all_curve_rules f.polygons [] f.curves) (twist_rule f ∷ []) none) in
    no_place (is_unknown (names_of f.curves)) f.twists (none_mapped UnknownCurve (position (is_unknown (names_of f.curves)) f.twists) rule.0)

-- the book of fields that break no rule
book_accepted : (f : Fields) → FieldsHold f → IsPage f.polygons → first_of (count_rules f) ≡ None → first_of (book_rules f) ≡ None → IsAccepted (book_of f)
book_accepted f said page counted none =
    let counts = each_none (count_rules f) counted in
    let unrefused = curves_unrefused f none in
    let known = known_curves (names_of f.curves) f.twists (twists_unrefused f none) in
    let curves_kept = length-map f.curves (curve_on f.polygons) in
    let names_many = length-map f.curves (λ (curve : NamedPath). curve.name) in
    record {
      page = page;
      labels = said.polygons;
      few_curves = omega (arith, curves_kept, at_most 32 (length f.curves) _ counts.0);
      curves = all_mapped (IsCurveOf f.polygons) (curve_on f.polygons) f.curves (λ k d l. record {
        named = (said.curves k d l).0;
        occurrences = (said.curves k d l).1;
        path = paths_taken f.polygons [] f.curves unrefused k d l;
      });
      different = subst Once (sym (names_kept f.polygons f.curves)) (names_once f.polygons [] f.curves unrefused);
      few_slides = at_most 64 (length f.slides) _ counts.1.1.0;
      slides = said.slides;
      few_twists = omega (arith, length-map f.twists (twist_about (names_of f.curves)), at_most 256 (length f.twists) _ counts.1.0);
      twists = all_mapped (IsEntryOf (book_of f)) (twist_about (names_of f.curves)) f.twists (λ k d l. record {
        known = omega (arith, curves_kept, names_many, known k d l);
        power = said.powers k d l;
      });
    }

-- a book that was read keeps all rules
pub read_accepted : (bytes : List ℕ) (book : Book) → book_read bytes ≡ Some book → IsAccepted book
read_accepted bytes book is =
    let (d, none, made) = read_from bytes book is in
    let f = fields_of d in
    let before = none_first (field_rules d ++ count_rules f) (book_rules f) none in
    subst IsAccepted made (book_accepted f (fields_hold d (none_first (field_rules d) (count_rules f) before)) (polygons_are_page d none)
    (none_rest (field_rules d) (count_rules f) before) (none_rest (field_rules d ++ count_rules f) (book_rules f) none))
