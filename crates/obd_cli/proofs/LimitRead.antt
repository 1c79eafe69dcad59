-- The limits of a book that was read are at most 20,000.
use Rattle.std.proofs.Common.{◌≡◌, ℕ, ◌≤◌, Bool, true, false, not, ◌&&◌, cond, List, ◌++◌, length, Option, None, Some, option_map, refl, subst, arith}
use Rattle.std.specs.Prelude.{is_none, nat_le}
use Rattle.std.specs.Option.{option_map_or}
use Rattle.std.proofs.lemmas.Bool.{leb-true}
use Rattle.std.proofs.lemmas.Option.{same_Some}
use Rattle.obd_base.proofs.Options.{each_none, fails_where_none, none_first, none_rest}
use Rattle.obd_base.specs.Options.{first_of}
use Rattle.obd_doc.specs.Document.{book_of, book_read, book_rules, count_rules, curves, default_limits, fields_of, optional, polygons, refusal_of, said_or, shape_rules, slides, twists, value_rules, version, wanted}
use Rattle.obd_doc.specs.Kinds.{generators, limits, moves}
use Rattle.obd_doc.specs.Values.{is_whole_in, value_of, whole_or_zero}
use Rattle.obd_doc.specs.declared.book.Book.{Book}
use Rattle.obd_doc.specs.declared.limits.Limits.{Limits}
use Rattle.obd_doc.specs.declared.refusal.DocRefusal.{DocRefusal}
use Rattle.obd_doc.specs.declared.refusal.DocRefusal.TheVariants.{Json, Number}
use Rattle.obd_doc.specs.declared.refusal.FieldName.TheVariants as field

-- of two tests that hold the first holds
first : (a b : Bool) → (a && b) ≡ true → a ≡ true
first true b is = refl
first false b is = absurd (let bad = is in cc)

-- and the second
second : (a b : Bool) → (a && b) ≡ true → b ≡ true
second true b is = is
second false b is = absurd (let bad = is in cc)

-- limits of at most 20,000
abbrev AreFew : Limits → Type 0
AreFew given = (given.moves ≤ 20000) × (given.generators ≤ 20000)

-- a test whose contrary fails holds
holds : (b : Bool) → not b ≡ false → b ≡ true
holds true is = refl
holds false is = absurd (let bad = is in cc)

-- a whole number in range
whole_within : (least : ℕ) (n : Option ℕ) → option_map_or (λ n. nat_le least n && nat_le n 20000) n false ≡ true → option_map_or (λ n. n) n 0 ≤ 20000
whole_within least None is = omega arith
whole_within least (Some n) is = leb-true n 20000 (second (nat_le least n) (nat_le n 20000) is)

-- a field that holds one, or is absent
field_within : {D : Type 0} (test : D → Bool) (says : D → ℕ) (found : Option D) → ((d : D) → test d ≡ true → says d ≤ 20000)
    → option_map_or test found true ≡ true → option_map_or says found 20000 ≤ 20000
field_within test says None each is = omega arith
field_within test says (Some d) each is = each d is

-- of rules in four parts the second has none that fails, where none fails
second_none : {A : Type 0} (front part next rest : List (Option A)) → first_of (front ++ part ++ next ++ rest) ≡ None → first_of part ≡ None
second_none front part next rest none = none_rest front part (none_first (front ++ part) next (none_first (front ++ part ++ next) rest none))

-- the limits of a document
limits_within : (found : Option _) → first_of (optional limits field.Limits found) ≡ None → AreFew (said_or default_limits limits found)
limits_within None none = (omega arith, omega arith)
limits_within (Some d) none =
    let rules = each_none (optional limits field.Limits (Some d)) none in
    let numbers = holds (limits.numbers d) (fails_where_none (not (limits.numbers d)) (Number field.Limits) rules.1.0) in
    let few_moves = first (moves.numbers d) (generators.numbers d) numbers in
    let few_generators = second (moves.numbers d) (generators.numbers d) numbers in
    (search (field_within (is_whole_in 0 20000) whole_or_zero, whole_within 0, few_moves), search (field_within (is_whole_in 1 20000) whole_or_zero, whole_within 1, few_generators))

-- the limits that a document gives, or those that stand in their place
document_within : (d : _) → first_of (value_rules d) ≡ None → AreFew (fields_of d).limits
document_within d none =
    let front = shape_rules d ++ wanted version field.OpenBook _ ++ wanted polygons field.Polygons _ ++ wanted curves field.Curves _ ++ wanted twists field.Twists _ ++ optional slides field.Slides _ in
    let rule = second_none front (optional limits field.Limits _) (count_rules (fields_of d)) (book_rules (fields_of d)) none in
    search (limits_within, rule)

by_value : (value : Option _) (size : ℕ) (book : Book) → (refusal : Option DocRefusal) → option_map_or (λ d. first_of (value_rules d)) value (Some (Json size)) ≡ refusal
    → cond (is_none refusal) (option_map (λ d. book_of (fields_of d)) value) None ≡ Some book → AreFew book.limits
by_value (Some d) size book None none is = subst (λ (b : Book). AreFew b.limits) (same_Some _ _ is) (document_within d none)
by_value None size book None none is = absurd (let bad = none in cc)
by_value value size book (Some refusal) found is = absurd (let bad = is in cc)

-- of each book that was read
pub limits_read : (bytes : List ℕ) (book : Book) → book_read bytes ≡ Some book → AreFew book.limits
limits_read bytes book is = by_value (value_of bytes) (length bytes) book (refusal_of bytes) refl is
