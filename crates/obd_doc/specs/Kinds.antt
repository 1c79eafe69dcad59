-- The kinds of values in a document.
use Rattle.std.specs.Prelude.{ℕ, ℤ, pos, negsuc, Bool, true, false, ◌&&◌, ◌||◌, nat_le, List, codes, is_some}
use Rattle.std.specs.List.{list_all}
use Rattle.std.specs.Option.{option_map_or}
use Rattle.std.specs.Str.{bytes_eq}
use Rattle.serde_json.specs.Find.{as_object, get}
use Rattle.obd_doc.specs.Reading.{Kind, array_of}
use Rattle.obd_doc.specs.Values.{element, field_names, integer, is_array_of, is_name_text, is_number, is_whole_in, text_of, whole_or_zero}
use Rattle.curve_paths.specs.declared.path.Cross.{Cross}
use Rattle.curve_paths.specs.declared.named.NamedPath.{NamedPath}
use Rattle.curve_paths.specs.declared.named.NamedTwist.{NamedTwist}
use Rattle.obd_doc.specs.declared.limits.Limits.{Limits}

-- names
abbrev pub name : Kind (List ℕ)
name = record { form = is_name_text; numbers = λ d. true; says = text_of }

-- whole numbers from one to another
abbrev pub whole_from : ℕ → ℕ → Kind ℕ
whole_from least most = record { form = is_number; numbers = is_whole_in least most; says = whole_or_zero }

-- the side of a slide
abbrev pub slide_side : Kind ℕ
slide_side = whole_from 0 15

-- from -64 to 64, and not 0
abbrev pub is_power : ℤ → Bool
is_power (pos n) = nat_le 1 n && nat_le n 64
is_power (negsuc n) = nat_le n 63

-- powers of a twist
abbrev pub power : Kind ℤ
power = record {
  form = is_number;
  numbers = λ d. option_map_or is_power (integer d) false;
  says = λ d. option_map_or (λ z. z) (integer d) (pos 0);
}

-- a label, an occurrence 0 or 1, and a place 0 to 31
abbrev pub cross : Kind Cross
cross = record {
  form = λ d. is_array_of 3 d && (is_name_text (element d 0) && (is_number (element d 1) && is_number (element d 2)));
  numbers = λ d. is_whole_in 0 1 (element d 1) && is_whole_in 0 31 (element d 2);
  says = λ d. record { label = text_of (element d 0); occurrence = whole_or_zero (element d 1); place = whole_or_zero (element d 2) };
}

-- a curve's name and its crossings
abbrev pub named_path : Kind NamedPath
named_path = record {
  form = λ d. is_array_of 2 d && (is_name_text (element d 0) && (array_of cross).form (element d 1));
  numbers = λ d. (array_of cross).numbers (element d 1);
  says = λ d. record { name = text_of (element d 0); path = (array_of cross).says (element d 1) };
}

-- a curve's name and a power
abbrev pub named_twist : Kind NamedTwist
named_twist = record {
  form = λ d. is_array_of 2 d && (is_name_text (element d 0) && power.form (element d 1));
  numbers = λ d. power.numbers (element d 1);
  says = λ d. record { name = text_of (element d 0); power = power.says (element d 1) };
}

-- a limit, which is 20,000 where it is absent
abbrev pub limit : List ℕ → ℕ → Kind ℕ
limit name least = record {
  form = λ d. option_map_or is_number (get name d) true;
  numbers = λ d. option_map_or (is_whole_in least 20000) (get name d) true;
  says = λ d. option_map_or whole_or_zero (get name d) 20000;
}

abbrev pub moves : Kind ℕ
moves = limit (codes "moves") 0

abbrev pub generators : Kind ℕ
generators = limit (codes "generators") 1

-- the name of a limit
abbrev pub is_limit : List ℕ → Bool
is_limit name = bytes_eq name (codes "moves") || bytes_eq name (codes "generators")

-- an object with no other fields than the two limits
abbrev pub limits : Kind Limits
limits = record {
  form = λ d. is_some (as_object d) && (list_all is_limit (field_names d) && (moves.form d && generators.form d));
  numbers = λ d. moves.numbers d && generators.numbers d;
  says = λ d. record { moves = moves.says d; generators = generators.says d };
}
