-- What a type of 16 bits reads from a value is the number of the definition.
use Rattle.std.proofs.Common.{◌≡◌, ◌∙◌, ◌&&◌, ◌<◌, ℕ, Bool, true, false, List, [], ◌∷◌, Option, Some, None, refl, sym, ap, true≢false}
use Rattle.std.proofs.lemmas.Bool.{ltb-true, lt-ltb}
use Rattle.std.specs.Prelude.{⊤, Ok, Err, Result, nat_lt, option_and_then, if◌then◌else◌}
use Rattle.std.specs.List.{list_all}
use Rattle.std.specs.Char.{digit_value}
use Rattle.std.specs.Str.Parse.{AllDigits, IsNumeral, ParsesUnsigned, digits_value, without_leading_plus}
use Rattle.clap.proofs.WalkLemmas.{both}
use Rattle.clap.specs.ValueTests.{is_numeral}
use Rattle.clap.specs.Words.{Kinds, ReadsOne, Row, Text, fault_of, one_of, subcommand_of}
use Rattle.obd_cli.specs.CommandLine.{command_of, named, number_in, number_of, obd, without_fault}
use Rattle.obd_cli.specs.declared.status.Command.{Command}

-- ---- the test of a numeral

all_digits : (digits : Text) → AllDigits 10 digits → list_all (λ digit. nat_lt (digit_value digit) 10) digits ≡ true
all_digits [] numeral = refl
all_digits (digit ∷ digits) numeral = rw (lt-ltb (digit_value digit) 10 numeral.0) (all_digits digits numeral.1)

digits_all : (digits : Text) → list_all (λ digit. nat_lt (digit_value digit) 10) digits ≡ true → AllDigits 10 digits
digits_all [] test = tt
digits_all (digit ∷ digits) test = let parts = both _ _ test in (ltb-true _ _ parts.0, digits_all digits parts.1)

numeral_test : (digits : Text) → IsNumeral 10 digits → is_numeral digits ≡ true
numeral_test digits numeral = rw (lt-ltb _ _ numeral.0) (all_digits digits numeral.1)

test_numeral : (digits : Text) → is_numeral digits ≡ true → IsNumeral 10 digits
test_numeral digits test = let parts = both _ _ test in (ltb-true _ _ parts.0, digits_all digits parts.1)

-- ---- numbers below 2 ^ 16

IsSmall : Text → Type 0
IsSmall text = IsNumeral 10 (without_leading_plus text) × (digits_value 10 (without_leading_plus text) < 65536)

pub small_number : (text : Text) → IsNumeral 10 (without_leading_plus text) → digits_value 10 (without_leading_plus text) < 65536
    → number_in text ≡ Some (digits_value 10 (without_leading_plus text))
small_number text numeral small = rw (numeral_test _ numeral, lt-ltb _ _ small) refl

no_number : (text : Text) → (IsNumeral 10 (without_leading_plus text) × (digits_value 10 (without_leading_plus text) < 65536) → ⊥) → number_in text ≡ None
no_number text none = go (is_numeral (without_leading_plus text) && nat_lt (digits_value 10 (without_leading_plus text)) 65536) refl
  where
    go : (test : Bool) → (is_numeral (without_leading_plus text) && nat_lt (digits_value 10 (without_leading_plus text)) 65536) ≡ test → number_in text ≡ None
    go true is = let parts = both _ _ is in absurd (none (test_numeral _ parts.0, ltb-true _ _ parts.1))
    go false is = rw is refl

read_is : (E : Type 0) (G : Text → Result ℕ E → Type 0) (text : Text) (found : Option ℕ) → ((u : Text) (r : Result ℕ E) → G u r → ParsesUnsigned 16 10 u r)
    → ReadsOne G text found → found ≡ number_in text
read_is E G text (Some n) only read = let parsed = only text (Ok n) read in ap Some parsed.1 ∙ sym (small_number text parsed.0.0 parsed.0.1)
read_is E G text None only read = sym (no_number text (only text (Err read.0) read.1))

-- the definition's number is what such a type reads
pub reads_number : (text : Text) → ReadsOne {T = ℕ} {E = ⊤} (λ text read. ParsesUnsigned 16 10 text read) text (number_in text)
reads_number text = go (is_numeral (without_leading_plus text) && nat_lt (digits_value 10 (without_leading_plus text)) 65536) refl
  where
    go : (test : Bool) → (is_numeral (without_leading_plus text) && nat_lt (digits_value 10 (without_leading_plus text)) 65536) ≡ test
        → ReadsOne {T = ℕ} {E = ⊤} (λ text read. ParsesUnsigned 16 10 text read) text (if test then Some (digits_value 10 (without_leading_plus text)) else None)
    go true is = let parts = both _ _ is in ((test_numeral _ parts.0, ltb-true _ _ parts.1), refl)
    go false is = (tt, λ small. let bad : true ≡ false = rw (numeral_test _ small.0, lt-ltb _ _ small.1) at is in true≢false bad)

-- the number of the value of a name
pub number_read : (E : Type 0) (G : Text → Result ℕ E → Type 0) (name : Text) (rows : List Row) (found : Option ℕ) → ((u : Text) (r : Result ℕ E) → G u r → ParsesUnsigned 16 10 u r)
    → (one_of name rows ≡ None → found ≡ None) → ((text : Text) → one_of name rows ≡ Some text → ReadsOne G text found) → found ≡ number_of name rows
number_read E G name rows found only none some = go (one_of name rows) refl
  where
    go : (text : Option Text) → one_of name rows ≡ text → found ≡ option_and_then number_in (one_of name rows)
    go (Some text) is = rw is (read_is E G text found only (some text is))
    go None is = rw is (none is)

-- ---- the words

-- words with no fault are the command that they name
pub taken_command : (words : List Text) → fault_of obd words ≡ [] → command_of words ≡ option_and_then named (subcommand_of obd words)
unfolding command_of
taken_command words none = ap (λ kinds. without_fault kinds (option_and_then named (subcommand_of obd words))) none

-- words with a fault are none
pub faulty_words : (words : List Text) → (fault_of obd words ≡ [] → ⊥) → command_of words ≡ None
unfolding command_of
faulty_words words some = go (fault_of obd words) some (option_and_then named (subcommand_of obd words))
  where
    go : (kinds : Kinds) → (kinds ≡ [] → ⊥) → (found : Option Command) → without_fault kinds found ≡ None
    go [] some found = absurd (some refl)
    go (kind ∷ kinds) some found = refl
