-- The value of bytes that are text, and of bytes that give none.
use Rattle.std.proofs.Common.{◌≡◌, ℕ, List, Some, None, Bool, true, false, refl}
use Rattle.std.proofs.lemmas.Str.{IsUtf8-from_is_utf8, is_utf8-from_IsUtf8}
use Rattle.std.specs.Str.{is_utf8, IsUtf8}
use Rattle.serde_json.specs.Data.{Data}
use Rattle.serde_json.specs.Read.{read}
use Rattle.obd_doc.specs.Values.{value_of}

pub value_of-some : (bytes : List ℕ) (d : Data) → IsUtf8 bytes → read bytes ≡ Some d → value_of bytes ≡ Some d
value_of-some bytes d text is = rw (is_utf8-from_IsUtf8 bytes text) is

none_by : (b : Bool) (bytes : List ℕ) → is_utf8 bytes ≡ b → (IsUtf8 bytes → read bytes ≡ None) → value_of bytes ≡ None
none_by true bytes e none = rw e (none (IsUtf8-from_is_utf8 bytes e))
none_by false bytes e none = rw e refl

pub value_of-none : (bytes : List ℕ) → (IsUtf8 bytes → read bytes ≡ None) → value_of bytes ≡ None
value_of-none bytes none = none_by _ bytes refl none
