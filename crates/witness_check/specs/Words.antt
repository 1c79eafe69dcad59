-- What the words of a line say, read one after another.
use Rattle.std.specs.Prelude.{ℕ, ℤ, ◌+◌, Bool, true, false, cond, nat_eq, nat_le, not, ◌&&◌, List, [], ◌∷◌, decimal, drop, length, Option, None, Some, option_map, if◌then◌else◌}
use Rattle.std.specs.List.{list_all, position_or_len}
use Rattle.std.specs.Fmt.{signed_decimal}
use Rattle.std.specs.Str.{bytes_eq}
use Rattle.obd_base.specs.declared.points.Exit.{Exit}
use Rattle.curve_paths.specs.declared.path.Cross.{Cross}
use Rattle.witness_check.specs.Reading.{is_name, is_number, is_signed, number_of, signed_of}
use Rattle.witness_check.specs.Splitting.{is_blank, words_of}

-- it has no space and no line feed
abbrev pub is_word : List ℕ → Bool
is_word bytes = list_all (λ byte. not (is_blank byte)) bytes

-- its first line feed is its last byte
abbrev pub is_line : List ℕ → Bool
is_line bytes = nat_eq (position_or_len (λ byte. nat_eq byte 10) bytes + 1) (length bytes)

-- the words of a line
abbrev pub line_words : List ℕ → Option (List (List ℕ))
line_words bytes = if is_line bytes then Some (words_of bytes) else None

-- what is read of a value that is read
abbrev pub and_then : {A B : Type 0} → Option A → (A → Option B) → Option B
and_then None more = None
and_then (Some a) more = more a

-- what the first word says
abbrev pub first_word : {A : Type 0} → (List ℕ → Option A) → List (List ℕ) → Option A
first_word read [] = None
first_word read (w ∷ ws) = read w

-- what the first word says, and then the words behind it
abbrev pub then_word : {A B : Type 0} → (List ℕ → Option A) → (A → List (List ℕ) → Option B) → List (List ℕ) → Option B
then_word read more words = and_then (first_word read words) (λ a. more a (drop 1 words))

-- no word is left
abbrev pub none_left : List (List ℕ) → Bool
none_left [] = true
none_left (w ∷ ws) = false

-- a value, where no word is left
abbrev pub last_word : {A : Type 0} → A → List (List ℕ) → Option A
last_word a words = if none_left words then Some a else None

-- what each word says
abbrev pub all_words : {A : Type 0} → (List ℕ → Option A) → List (List ℕ) → Option (List A)
all_words read [] = Some []
all_words read (w ∷ ws) = and_then (read w) (λ a. option_map (λ xs. a ∷ xs) (all_words read ws))

-- the value of a word, where it is the word of that value, and this may be written
abbrev pub word_value : {A : Type 0} → (List ℕ → A) → (A → Bool) → (A → List ℕ) → List ℕ → Option A
word_value of fits text word = if fits (of word) && bytes_eq (text (of word)) word then Some (of word) else None

-- a number without a sign
abbrev pub number_word : List ℕ → Option ℕ
number_word word = word_value number_of is_number decimal word

-- a number, perhaps behind a minus
abbrev pub signed_word : List ℕ → Option ℤ
signed_word word = word_value signed_of is_signed signed_decimal word

-- a name
abbrev pub name_word : List ℕ → Option (List ℕ)
name_word word = if is_name word then Some word else None

-- what stands before the first of these bytes, and behind it
abbrev pub cut_at : ℕ → List ℕ → Option (List ℕ × List ℕ)
cut_at mark [] = None
cut_at mark (b ∷ bytes) = cond (nat_eq mark b) (Some ([], bytes)) (option_map (λ p. (b ∷ p.0, p.1)) (cut_at mark bytes))

-- SIDE.PLACE
abbrev pub exit_word : List ℕ → Option Exit
exit_word word =
    and_then (cut_at 46 word) (λ p. and_then (number_word p.0) (λ side. and_then (number_word p.1) (λ place. Some (record { side = side; place = place }))))

-- 0 or 1
abbrev pub bit_word : List ℕ → Option ℕ
bit_word word = and_then (number_word word) (λ n. if nat_le n 1 then Some n else None)

-- the crossing of a label, an occurrence and a place
abbrev pub cross_at : List ℕ → ℕ → ℕ → Cross
cross_at label occurrence place = record { label = label; occurrence = occurrence; place = place }

-- OCC:PLACE, behind a label
abbrev pub cross_rest : List ℕ → List ℕ → Option Cross
cross_rest label word =
    and_then (cut_at 58 word) (λ p. and_then (bit_word p.0) (λ bit. and_then (number_word p.1) (λ place.
    Some (cross_at label bit place))))

-- LABEL:OCC:PLACE
abbrev pub cross_word : List ℕ → Option Cross
cross_word word = and_then (cut_at 58 word) (λ p. and_then (name_word p.0) (λ label. cross_rest label p.1))
