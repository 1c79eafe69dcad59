-- Each twist of a document is about the first curve of its name.
use Rattle.std.proofs.Common.{◌≡◌, ℕ, suc, ◌+◌, arith, Bool, inl, inr, true, false, not, List, [], ◌∷◌, map, get_or, position, None, refl, sym, ◌∙◌, ap}
use Rattle.std.specs.List.{list_any, position_or_len}
use Rattle.std.specs.Str.{bytes_eq}
use Rattle.std.proofs.lemmas.Bool.{cases_Bool, false≢true, or_parts}
use Rattle.std.proofs.lemmas.Slice.Eq.{bytes_eq-Decides}
use Rattle.curve_paths.specs.declared.named.NamedPath.{NamedPath}
use Rattle.curve_paths.specs.declared.named.NamedTwist.{NamedTwist}
use Rattle.page_surface.specs.Labels.{Label}
use Rattle.obd_doc.specs.Document.{by_name, curve_on, names_of, twist_about}
use Rattle.obd_doc.specs.declared.book.NamedCurve.{NamedCurve}
use Rattle.obd_doc.proofs.TwistsSoFar.{is_unknown, no_place}

-- where some item has the name, the first that has it is that name
first_has : (name : List ℕ) (names : List (List ℕ)) → list_any (bytes_eq name) names ≡ true → get_or names (position_or_len (bytes_eq name) names) [] ≡ name
first_has name [] some = absurd (false≢true some)
first_has name (x ∷ names) some = elim (cases_Bool (bytes_eq name x)) [
  | inl same ↦ rw same (sym ((bytes_eq-Decides name x).0 same))
  | inr other ↦
      let next : 1 + position_or_len (bytes_eq name) names ≡ suc (position_or_len (bytes_eq name) names) = omega arith in
      rw other (ap (λ (n : ℕ). get_or (x ∷ names) n []) next ∙ first_has name names (rw other at some))
]

-- so it is the first of its own name
first_again : (names : List (List ℕ)) (twist : NamedTwist) → list_any (bytes_eq twist.name) names ≡ true → twist_about names (by_name names (twist_about names twist)) ≡ twist_about names twist
first_again names twist some = ap (λ (name : List ℕ). record { curve = position_or_len (bytes_eq name) names; power = twist.power }) (first_has twist.name names some)

not_false : (b : Bool) → not b ≡ false → b ≡ true
not_false true is = refl
not_false false is = absurd (let bad = is in cc)

all_again : (names : List (List ℕ)) (entries : List NamedTwist) → list_any (is_unknown names) entries ≡ false
    → map (twist_about names) (map (by_name names) (map (twist_about names) entries)) ≡ map (twist_about names) entries
all_again names [] known = refl
all_again names (entry ∷ entries) known =
    let (first, rest) = or_parts (is_unknown names entry) (list_any (is_unknown names) entries) known in
    rw (first_again names entry (not_false _ first), all_again names entries rest) refl

-- the curves that are put on a page keep their names
pub names_kept : (page : List (List Label)) (paths : List NamedPath) → map (λ (curve : NamedCurve). curve.name) (map (curve_on page) paths) ≡ names_of paths
names_kept page [] = refl
names_kept page (path ∷ paths) = ap (λ names. path.name ∷ names) (names_kept page paths)

-- where each twist names a curve, the twists by number are those of the first curves of these names
pub first_named : (names other : List (List ℕ)) (entries : List NamedTwist) → other ≡ names → position (is_unknown names) entries ≡ None
    → map (twist_about other) (map (by_name other) (map (twist_about names) entries)) ≡ map (twist_about names) entries
first_named names other entries same none = rw same (all_again names entries (no_place (is_unknown names) entries none))
