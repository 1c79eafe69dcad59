-- What a value of some kind says, and where it lacks its form or has a wrong number.
use Rattle.std.specs.Prelude.{◌≡◌, Bool, true, false, ◌&&◌, List, map, is_some, Result, Ok, Err}
use Rattle.std.specs.List.{list_all}
use Rattle.serde_json.specs.Data.{Data}
use Rattle.serde_json.specs.Find.{as_array}
use Rattle.obd_doc.specs.Values.{elements}
use Rattle.obd_doc.specs.declared.reading.Unread.{Unread}
use Rattle.obd_doc.specs.declared.reading.Unread.TheVariants.{Form, Number, NoMemory}

-- A kind of values: the form that a value has, that the numbers in it are whole and in their ranges, and what it says.
-- The last two are of use where the form is there, and the last where the numbers are.
pub record Kind (A : Type 0) : Type 0 where
  pub form : Data → Bool
  pub numbers : Data → Bool
  pub says : Data → A

-- arrays of values of a kind
abbrev pub array_of : {A : Type 0} → Kind A → Kind (List A)
array_of kind = record {
  form = λ d. is_some (as_array d) && list_all kind.form (elements d);
  numbers = λ d. list_all kind.numbers (elements d);
  says = λ d. map kind.says (elements d);
}

-- what was read of a value is what it says; else its form is wanting, or it is there and a number is wrong
abbrev pub Reads : {A : Type 0} → Kind A → Data → Result A Unread → Type 0
Reads kind d (Ok value) = (kind.form d ≡ true) × (kind.numbers d ≡ true) × (value ≡ kind.says d)
Reads kind d (Err Form) = kind.form d ≡ false
Reads kind d (Err Number) = (kind.form d ≡ true) × (kind.numbers d ≡ false)
Reads kind d (Err NoMemory) = Unit {0}
