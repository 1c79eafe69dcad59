-- What the values of a document say, where they have the form and the numbers of their kind.
use Rattle.std.proofs.Common.{◌≡◌, ℕ, ℤ, pos, negsuc, ◌<◌, ◌≤◌, Bool, true, false, not, leb, ◌&&◌, List, [], ◌∷◌, length, get_or, Option, None, Some, refl, sym, subst, arith, All}
use Rattle.std.specs.Prelude.{is_some}
use Rattle.std.specs.List.{list_all}
use Rattle.std.specs.Option.{option_map_or}
use Rattle.std.proofs.lemmas.Bool.{and_parts, false≢true, leb-true}
use Rattle.std.proofs.lemmas.List.{get_or-map, length-map}
use Rattle.std.proofs.lemmas.List.Sums.{AllPass-from_list_all}
use Rattle.serde_json.specs.Data.{Data, null}
use Rattle.serde_json.specs.Find.{as_array, as_str}
use Rattle.curve_paths.specs.PathTables.{HaveOccurrences}
use Rattle.obd_base.specs.Options.{first_of, when}
use Rattle.obd_doc.specs.Accepted.{IsName, IsTwistPower}
use Rattle.obd_doc.specs.Document.{curves, optional, polygons, said_or, slides, twists, wanted}
use Rattle.obd_doc.specs.Kinds.{cross, is_power, name, named_path, named_twist, slide_side}
use Rattle.obd_doc.specs.Reading.{Kind, array_of}
use Rattle.obd_doc.specs.Values.{element, elements, integer, is_array_of, is_name, is_name_text, is_whole_in, whole}
use Rattle.curve_paths.specs.declared.named.NamedPath.{NamedPath}
use Rattle.obd_doc.specs.declared.refusal.DocRefusal.{DocRefusal}
use Rattle.obd_doc.specs.declared.refusal.FieldName.{FieldName}
use Rattle.obd_doc.specs.declared.refusal.DocRefusal.TheVariants.{Field, Number}
use Rattle.obd_doc.specs.declared.refusal.FieldName.TheVariants as field

-- what values of a kind say has a property
abbrev pub Say : {A : Type 0} → (A → Type 0) → Kind A → Type 0
Say P kind = (d : Data) → kind.form d ≡ true → kind.numbers d ≡ true → P (kind.says d)

-- neither of two rules fails
both_hold : (form numbers : Bool) (first second : DocRefusal) → first_of (when (not form) first ∷ when (not numbers) second ∷ []) ≡ None → (form ≡ true) × (numbers ≡ true)
both_hold true true first second none = (refl, refl)
both_hold true false first second none = absurd (let bad = none in cc)
both_hold false numbers first second none = absurd (let bad = none in cc)

module _ {A : Type 0} (P : A → Type 0) (kind : Kind A) (each : Say P kind) where
  -- so each element of an array has it,
  pub each_says : Say (All P) (array_of kind)
  each_says d form numbers = λ k said l.
      let within : k < length (elements d) = omega (arith, l, length-map (elements d) kind.says) in
      let forms = (and_parts (is_some (as_array d)) (list_all kind.form (elements d)) form).1 in
      subst P (sym (get_or-map kind.says (elements d) k null said within))
      (each (get_or (elements d) k null) (AllPass-from_list_all kind.form (elements d) forms k null within) (AllPass-from_list_all kind.numbers (elements d) numbers k null within))

  -- what a field says has it,
  pub field_says : (field : FieldName) (d : Option Data) (absent : A) → first_of (wanted kind field d) ≡ None → P (said_or absent kind d)
  field_says field None absent none = absurd (let bad = none in cc)
  field_says field (Some d) absent none = let (form, numbers) = both_hold (kind.form d) (kind.numbers d) (Field field) (Number field) none in each d form numbers

  -- and what one says that may be absent
  pub optional_says : (field : FieldName) (d : Option Data) (absent : A) → P absent → first_of (optional kind field d) ≡ None → P (said_or absent kind d)
  optional_says field None absent without none = without
  optional_says field (Some d) absent without none = field_says field (Some d) absent none

-- a text that is a name
name_says : Say IsName name
name_says d form numbers = by_text (as_str d) form
  where
    by_text : (text : Option (List ℕ)) → option_map_or is_name text false ≡ true → IsName (option_map_or (λ word. word) text [])
    by_text None form = absurd (false≢true form)
    by_text (Some word) form = form

pub polygons_say : Say (All (All IsName)) polygons
polygons_say = each_says (All IsName) (array_of name) (each_says IsName name name_says)

-- a whole number that is no more than the most
whole_at_most : (least most : ℕ) (n : Option ℕ) → option_map_or (λ k. leb least k && leb k most) n false ≡ true → option_map_or (λ k. k) n 0 ≤ most
whole_at_most least most None is = absurd (false≢true is)
whole_at_most least most (Some n) is = leb-true n most (and_parts (leb least n) (leb n most) is).1

-- a crossing
cross_says : Say (λ crossing. crossing.occurrence ≤ 1) cross
cross_says d form numbers = whole_at_most 0 1 (whole (element d 1)) (and_parts (is_whole_in 0 1 (element d 1)) (is_whole_in 0 31 (element d 2)) numbers).0

-- a curve: its name is a name, and its crossings leave by occurrence 0 or 1
abbrev pub IsNamedPath : NamedPath → Type 0
IsNamedPath curve = IsName curve.name × HaveOccurrences curve.path

named_path_says : Say IsNamedPath named_path
named_path_says d form numbers =
    let parts = (and_parts (is_array_of 2 d) (is_name_text (element d 0) && (array_of cross).form (element d 1)) form).1 in (
      name_says (element d 0) (and_parts (is_name_text (element d 0)) ((array_of cross).form (element d 1)) parts).0 refl,
      each_says (λ crossing. crossing.occurrence ≤ 1) cross cross_says (element d 1)
          (and_parts (is_name_text (element d 0)) ((array_of cross).form (element d 1)) parts).1 numbers,
    )

pub curves_say : Say (All IsNamedPath) curves
curves_say = each_says IsNamedPath named_path named_path_says

-- so the crossings of what the field of the curves says leave by occurrence 0 or 1
pub said_occurrences : (d : Option Data) (said : List NamedPath) → first_of (wanted curves field.Curves d) ≡ None → ((absent : List NamedPath) → said ≡ said_or absent curves d)
    → All (λ named. HaveOccurrences named.path) said
said_occurrences d said none is =
    let named = subst (All IsNamedPath) (sym (is [])) (field_says (All IsNamedPath) curves curves_say field.Curves d [] none) in
    λ k curve l. (named k curve l).1

-- a power from -64 to 64 that isn't 0
power_holds : (z : ℤ) → is_power z ≡ true → IsTwistPower z
power_holds (pos n) is = let (low, high) = and_parts (leb 1 n) (leb n 64) is in record { some = leb-true 1 n low; most = leb-true n 64 high }
power_holds (negsuc n) is = let high = leb-true n 63 is in record { some = omega arith; most = omega (arith, high) }

named_twist_says : Say (λ twist. IsTwistPower twist.power) named_twist
named_twist_says d form numbers = by_integer (integer (element d 1)) numbers
  where
    by_integer : (z : Option ℤ) → option_map_or is_power z false ≡ true → IsTwistPower (option_map_or (λ n. n) z (pos 0))
    by_integer None is = absurd (false≢true is)
    by_integer (Some z) is = power_holds z is

pub twists_say : Say (All (λ twist. IsTwistPower twist.power)) twists
twists_say = each_says (λ twist. IsTwistPower twist.power) named_twist named_twist_says

slide_says : Say (λ side. side ≤ 15) slide_side
slide_says d form numbers = whole_at_most 0 15 (whole d) numbers

pub slides_say : Say (All (λ side. side ≤ 15)) slides
slides_say = each_says (λ side. side ≤ 15) slide_side slide_says
