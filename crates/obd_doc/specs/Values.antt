-- The value that the bytes of a document give, and what single values are.
use Rattle.std.specs.Prelude.{ℕ, ℤ, ◌&&◌, ◌||◌, ◌==◌, List, [], ◌∷◌, length, Bool, nat_eq, nat_le, if◌then◌else◌, is_some, Option, None, option_and_then, slice_index_or, false}
use Rattle.std.specs.List.{list_all}
use Rattle.std.specs.Option.{option_map_or}
use Rattle.std.specs.Str.{is_utf8}
use Rattle.serde_json.specs.Data.{Data, null, Items, no_items, item, Members, no_members, member}
use Rattle.serde_json.specs.Find.{as_array, as_i64, as_number, as_object, as_str, as_u64}
use Rattle.serde_json.specs.Read.{read}

-- the value that the bytes give, if they are text and give one
abbrev pub value_of : List ℕ → Option Data
value_of bytes = if is_utf8 bytes then read bytes else None

-- items as a list
abbrev pub listed : Items → List Data
listed no_items = []
listed (item d ds) = d ∷ listed ds

-- the names of an object's fields
abbrev pub names_in : Members → List (List ℕ)
names_in no_members = []
names_in (member name d ms) = name ∷ names_in ms

-- the elements of an array; other values have none
abbrev pub elements : Data → List Data
elements d = option_map_or listed (as_array d) []

abbrev pub element : Data → ℕ → Data
element d i = slice_index_or (elements d) i null

-- an array of so many elements
abbrev pub is_array_of : ℕ → Data → Bool
is_array_of n d = is_some (as_array d) && nat_eq (length (elements d)) n

-- the names of the fields of an object; other values have none
abbrev pub field_names : Data → List (List ℕ)
field_names d = option_map_or names_in (as_object d) []

-- a letter A to Z or a to z, a digit or `_`
abbrev pub is_name_byte : ℕ → Bool
is_name_byte b = (nat_le 65 b && nat_le b 90) || (nat_le 97 b && nat_le b 122) || (nat_le 48 b && nat_le b 57) || (b == 95)

-- 1 to 16 such characters
abbrev pub is_name : List ℕ → Bool
is_name word = nat_le 1 (length word) && nat_le (length word) 16 && list_all is_name_byte word

-- the text that a value is; other values have none
abbrev pub text_of : Data → List ℕ
text_of d = option_map_or (λ text. text) (as_str d) []

-- a text that is a name
abbrev pub is_name_text : Data → Bool
is_name_text d = option_map_or is_name (as_str d) false

-- a number of any kind
abbrev pub is_number : Data → Bool
is_number d = is_some (as_number d)

-- the whole number that a value is, where it is one of 0 or more
abbrev pub whole : Data → Option ℕ
whole d = option_and_then as_u64 (as_number d)

-- the whole number that it is, where it has a sign or none
abbrev pub integer : Data → Option ℤ
integer d = option_and_then as_i64 (as_number d)

-- a whole number from one to another
abbrev pub is_whole_in : ℕ → ℕ → Data → Bool
is_whole_in least most d = option_map_or (λ n. nat_le least n && nat_le n most) (whole d) false

-- its value; that of other values is 0
abbrev pub whole_or_zero : Data → ℕ
whole_or_zero d = option_map_or (λ n. n) (whole d) 0
