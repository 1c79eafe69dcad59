-- Rules that are tried one after another.
use Rattle.std.proofs.Common.{◌≡◌, Bool, true, false, cond, not, ◌&&◌, List, [], ◌∷◌, ◌++◌, Option, None, Some, is_some, refl, sym, ◌∙◌, ap}
use Rattle.std.specs.List.{list_all}
use Rattle.std.specs.Result.{IsErrAnd}
use Rattle.std.proofs.Common.{Result, Ok, Err, ◌≢◌}
use Rattle.obd_doc.specs.Settled.{Settles}
use Rattle.serde_json.specs.Data.{Data}
use Rattle.serde_json.specs.Find.{as_object}
use Rattle.obd_base.specs.Options.{first_of}
pub use Rattle.obd_base.proofs.Options.{skip, stop}
use Rattle.obd_doc.specs.Document.{is_field, shape_rules}
use Rattle.obd_doc.specs.Values.{field_names}
use Rattle.obd_doc.specs.declared.refusal.DocRefusal.{DocRefusal}
use Rattle.obd_doc.specs.declared.refusal.DocRefusal.TheVariants.{Field, NoMemory}
use Rattle.obd_doc.specs.declared.refusal.FieldName.TheVariants as field

-- what the rules of an object's shape find, by the test of its fields' names
abbrev pub by_names : Bool → Option DocRefusal
by_names b = cond b None (Some (Field field.Other))

pub shape_found : (d : Data) (b : Bool) → is_some (as_object d) ≡ true → b ≡ (is_some (as_object d) && list_all is_field (field_names d))
    → first_of (shape_rules d) ≡ by_names b
shape_found d b object names =
    let all : list_all is_field (field_names d) ≡ b = sym (names ∙ ap (λ o. o && list_all is_field (field_names d)) object) in
    rw (object, all) (by_test b)
  where
    by_test : (b : Bool) → first_of (cond (not b) (Some (Field field.Other)) None ∷ []) ≡ by_names b
    by_test true = refl
    by_test false = refl

-- a refusal that is given on as it is
pub given_on : {B : Type 0} (all : List (Option DocRefusal)) (value : B) (result : Result B DocRefusal) (refusal : DocRefusal) → IsErrAnd result (λ given. given ≡ refusal)
    → (refusal ≢ NoMemory → first_of all ≡ Some refusal) → Settles all value result
given_on all value (Ok made) refusal is found = absurd is
given_on all value (Err given) refusal is found = λ other. found (λ e. other (is ∙ e)) ∙ ap Some (sym is)

-- the first stage that fails among seven
module _ (a b c d e f g : List (Option DocRefusal)) (r : DocRefusal) where
  pub third : first_of a ≡ None → first_of b ≡ None → first_of c ≡ Some r → first_of (a ++ b ++ c ++ d ++ e ++ f ++ g) ≡ Some r
  third na nb found =
      stop (a ++ b ++ c ++ d ++ e ++ f) g r (stop (a ++ b ++ c ++ d ++ e) f r (stop (a ++ b ++ c ++ d) e r (stop (a ++ b ++ c) d r (skip (a ++ b) c (Some r) (skip a b None na nb) found))))

  pub fourth : first_of a ≡ None → first_of b ≡ None → first_of c ≡ None → first_of d ≡ Some r → first_of (a ++ b ++ c ++ d ++ e ++ f ++ g) ≡ Some r
  fourth na nb nc found =
      stop (a ++ b ++ c ++ d ++ e ++ f) g r (stop (a ++ b ++ c ++ d ++ e) f r (stop (a ++ b ++ c ++ d) e r (skip (a ++ b ++ c) d (Some r) (skip (a ++ b) c None (skip a b None na nb) nc) found)))

  pub fifth : first_of a ≡ None → first_of b ≡ None → first_of c ≡ None → first_of d ≡ None → first_of e ≡ Some r → first_of (a ++ b ++ c ++ d ++ e ++ f ++ g) ≡ Some r
  fifth na nb nc nd found =
      stop (a ++ b ++ c ++ d ++ e ++ f) g r (stop (a ++ b ++ c ++ d ++ e) f r (skip (a ++ b ++ c ++ d) e (Some r) (skip (a ++ b ++ c) d None (skip (a ++ b) c None (skip a b None na nb) nc) nd) found))

  pub sixth : first_of a ≡ None → first_of b ≡ None → first_of c ≡ None → first_of d ≡ None → first_of e ≡ None → first_of f ≡ Some r → first_of (a ++ b ++ c ++ d ++ e ++ f ++ g) ≡ Some r
  sixth na nb nc nd ne found =
      stop (a ++ b ++ c ++ d ++ e ++ f) g r (skip (a ++ b ++ c ++ d ++ e) f (Some r) (skip (a ++ b ++ c ++ d) e None (skip (a ++ b ++ c) d None (skip (a ++ b) c None (skip a b None na nb) nc) nd) ne) found)

  pub seventh : first_of a ≡ None → first_of b ≡ None → first_of c ≡ None → first_of d ≡ None → first_of e ≡ None → first_of f ≡ None → first_of g ≡ Some r → first_of (a ++ b ++ c ++ d ++ e ++ f ++ g) ≡ Some r
  seventh na nb nc nd ne nf found =
      skip (a ++ b ++ c ++ d ++ e ++ f) g (Some r) (skip (a ++ b ++ c ++ d ++ e) f None (skip (a ++ b ++ c ++ d) e None (skip (a ++ b ++ c) d None (skip (a ++ b) c None (skip a b None na nb) nc) nd) ne) nf) found
