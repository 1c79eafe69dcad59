-- Which words may stand in a line, and what they are read as.
use Rattle.std.specs.Prelude.{ℕ, ℤ, zero, suc, pos, negsuc, cond, Bool, nat_eq, nat_le, ◌&&◌, ◌||◌, List, [], ◌∷◌, length, slice_index_or}
use Rattle.std.specs.List.{list_all}
use Rattle.std.specs.Str.Parse.{digits_value}
use Rattle.obd_base.specs.declared.points.Exit.{Exit}
use Rattle.curve_paths.specs.declared.path.Cross.{Cross}
use Rattle.witness_check.specs.Splitting.{pieces_of}

-- word k of some words
abbrev pub word_at : List (List ℕ) → ℕ → List ℕ
word_at words k = slice_index_or words k []

-- a letter A to Z or a to z, a digit or `_`
abbrev pub is_name_byte : ℕ → Bool
is_name_byte b = (nat_le 65 b && nat_le b 90) || ((nat_le 97 b && nat_le b 122) || ((nat_le 48 b && nat_le b 57) || nat_eq b 95))

-- a name: 1 to 16 such characters
abbrev pub is_name : List ℕ → Bool
is_name word = nat_le 1 (length word) && (nat_le (length word) 16 && list_all is_name_byte word)

-- a number that may be written
abbrev pub is_number : ℕ → Bool
is_number n = nat_le n 4294967295

-- the number that a word of digits writes
abbrev pub number_of : List ℕ → ℕ
number_of word = digits_value 10 word

-- a number with a sign that may be written
abbrev pub is_signed : ℤ → Bool
is_signed (pos n) = nat_le n 2147483647
is_signed (negsuc n) = nat_le n 2147483647

-- less a number
abbrev pub minus : ℕ → ℤ
minus zero = pos 0
minus (suc n) = negsuc n

-- the number that a word of digits writes, perhaps after a minus
abbrev pub signed_of : List ℕ → ℤ
signed_of [] = pos 0
signed_of (b ∷ word) = cond (nat_eq b 45) (minus (number_of word)) (pos (number_of (b ∷ word)))

-- both numbers of an exit may be written
abbrev pub is_exit : Exit → Bool
is_exit exit = is_number exit.side && is_number exit.place

-- the exit that such a word writes
abbrev pub exit_of : List ℕ → Exit
exit_of word = let ps = pieces_of (nat_eq 46) word in record { side = number_of (word_at ps 0); place = number_of (word_at ps 1) }

-- a crossing whose parts may be written: the occurrence is 0 or 1
abbrev pub is_cross : Cross → Bool
is_cross cross = is_name cross.label && (nat_le cross.occurrence 1 && is_number cross.place)

-- the crossing that such a word writes
abbrev pub cross_of : List ℕ → Cross
cross_of word =
    let ps = pieces_of (nat_eq 58) word in
    record { label = word_at ps 0; occurrence = number_of (word_at ps 1); place = number_of (word_at ps 2) }
