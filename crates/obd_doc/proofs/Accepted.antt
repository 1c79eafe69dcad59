-- The first rule of a document that fails, and the book where none does.
use Rattle.std.proofs.Common.{◌≡◌, ◌≢◌, ℕ, List, ◌++◌, Option, None, Some, Result, Ok, Err, refl, sym, ◌∙◌, ap, subst}
use Rattle.std.specs.Prelude.{IfErr, IfOk}
use Rattle.std.specs.Result.{IsErrAnd}
use Rattle.serde_json.specs.Data.{Data}
use Rattle.obd_base.specs.Options.{first_of}
use Rattle.obd_doc.specs.Document.{book_of, book_read, book_rules, count_rules, field_rules, fields_of, refusal_of, value_rules}
use Rattle.obd_doc.specs.Settled.{Settles}
use Rattle.obd_doc.specs.Values.{value_of}
use Rattle.obd_doc.specs.declared.book.Book.{Book}
use Rattle.obd_doc.specs.declared.fields.Fields.{Fields}
use Rattle.obd_doc.specs.declared.refusal.DocRefusal.{DocRefusal}
use Rattle.obd_doc.specs.declared.refusal.DocRefusal.TheVariants.{NoMemory}
use Rattle.obd_base.proofs.Options.{skip, stop}

module _ (bytes : List ℕ) (d : Data) (is : Some d ≡ value_of bytes) where
  by_value : (found : Option DocRefusal) → first_of (value_rules d) ≡ found → refusal_of bytes ≡ found
  by_value found h = rw (← is) h

  pub fields_refused : (refusal : DocRefusal) → first_of (field_rules d) ≡ Some refusal → refusal_of bytes ≡ Some refusal
  fields_refused refusal found =
      by_value (Some refusal) (stop (field_rules d ++ count_rules (fields_of d)) (book_rules (fields_of d)) refusal (stop (field_rules d) (count_rules (fields_of d)) refusal found))

  module _ (no_field : first_of (field_rules d) ≡ None) (fields : Fields) (fields_are : fields ≡ fields_of d) where
    pub counts_refused : (refusal : DocRefusal) → first_of (count_rules fields) ≡ Some refusal → refusal_of bytes ≡ Some refusal
    counts_refused refusal found =
        by_value (Some refusal) (stop (field_rules d ++ count_rules (fields_of d)) (book_rules (fields_of d)) refusal
        (skip (field_rules d) (count_rules (fields_of d)) (Some refusal) no_field (subst (λ (f : Fields). first_of (count_rules f) ≡ Some refusal) fields_are found)))

    module _ (no_count : first_of (count_rules fields) ≡ None) where
      after_counts : (found : Option DocRefusal) → first_of (book_rules fields) ≡ found → refusal_of bytes ≡ found
      after_counts found h =
          by_value found (skip (field_rules d ++ count_rules (fields_of d)) (book_rules (fields_of d)) found
          (skip (field_rules d) (count_rules (fields_of d)) None no_field (subst (λ (f : Fields). first_of (count_rules f) ≡ None) fields_are no_count))
          (subst (λ (f : Fields). first_of (book_rules f) ≡ found) fields_are h))

      pub book_accepted : (result : Result Book DocRefusal) → Settles (book_rules fields) (book_of fields) result → IfOk result (λ book. book_read bytes ≡ Some book)
      book_accepted (Ok book) settled =
          let none = after_counts None settled.0 in
          let made : book ≡ book_of (fields_of d) = settled.1 ∙ ap book_of fields_are in
          rw (none, ← is, made) refl
      book_accepted (Err refusal) settled = tt

      pub book_refused : (result : Result Book DocRefusal) → Settles (book_rules fields) (book_of fields) result → IfErr result (λ refusal. refusal ≢ NoMemory → refusal_of bytes ≡ Some refusal)
      book_refused (Ok book) settled = tt
      book_refused (Err refusal) settled = λ other. after_counts (Some refusal) (settled other)

-- a refusal that is given on as it is
pub given_error : {B : Type 0} (bytes : List ℕ) (result : Result B DocRefusal) (refusal : DocRefusal) → IsErrAnd result (λ given. given ≡ refusal)
    → (refusal ≢ NoMemory → refusal_of bytes ≡ Some refusal) → IfErr result (λ given. given ≢ NoMemory → refusal_of bytes ≡ Some given)
given_error bytes (Ok made) refusal is found = absurd is
given_error bytes (Err given) refusal is found = λ other. found (λ e. other (is ∙ e)) ∙ ap Some (sym is)
