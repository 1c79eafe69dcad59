-- Rules that were tried in their order.
use Rattle.std.specs.Prelude.{◌≡◌, ◌≢◌, List, Option, None, Some, Result, Ok, Err}
use Rattle.serde_json.specs.Data.{Data}
use Rattle.obd_base.specs.Options.{first_of}
use Rattle.obd_doc.specs.Document.{said_or}
use Rattle.obd_doc.specs.Reading.{Kind}
use Rattle.obd_doc.specs.declared.refusal.DocRefusal.{DocRefusal}
use Rattle.obd_doc.specs.declared.refusal.DocRefusal.TheVariants.{NoMemory}

-- no rule fails, and this is what was to be made; or the first rule that fails is named, unless memory is wanting
abbrev pub Settles : {A : Type 0} → List (Option DocRefusal) → A → Result A DocRefusal → Type 0
Settles rules value (Ok made) = (first_of rules ≡ None) × (made ≡ value)
Settles rules value (Err refusal) = refusal ≢ NoMemory → first_of rules ≡ Some refusal

-- the same of a field that has to be there: what was made is what the field says
abbrev pub SettlesField : {A : Type 0} → List (Option DocRefusal) → Kind A → Option Data → Result A DocRefusal → Type 0
SettlesField {A = A} rules kind d (Ok made) = (first_of rules ≡ None) × ((absent : A) → made ≡ said_or absent kind d)
SettlesField rules kind d (Err refusal) = refusal ≢ NoMemory → first_of rules ≡ Some refusal
