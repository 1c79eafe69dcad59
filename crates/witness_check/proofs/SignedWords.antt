-- Numbers with a sign as std reads them.
use Rattle.std.proofs.Common.{◌≡◌, ◌≢◌, ℕ, ◌≤◌, ℤ, pos, negsuc, true, false, nat_eq, List, sym, ◌∙◌, ap, subst, refl, arith, Some, None, leb-true, le-leb}
use Rattle.std.specs.Prelude.{Option, IfNone, IfSome, Result, Ok, Err}
use Rattle.std.specs.Cmp.Lexicographic.{other_text, pointwise}
use Rattle.std.specs.Fmt.{signed_decimal}
use Rattle.std.specs.Str.{IsUtf8}
use Rattle.std.specs.Str.Parse.{ParsesSigned}
use Rattle.std.proofs.lemmas.Fmt.{IsAscii-signed, parse-signed_decimal}
use Rattle.std.proofs.lemmas.Str.{IsUtf8-from_ascii}
use Rattle.witness_check.specs.Reading.{is_signed}
use Rattle.witness_check.specs.Words.{signed_word}
use Rattle.witness_check.proofs.WordReaders.{signed_reader}
use mir.Syntax.{w32}
use mir.Val.{SFits as FitsSigned}

-- some bytes are no number's
abbrev pub NoSigned : List ℕ → Type 0
NoSigned bytes = (z : ℤ) → is_signed z ≡ true → bytes ≢ signed_decimal z

-- where they are no text,
pub no_text : (bytes : List ℕ) → (IsUtf8 bytes → ⊥) → NoSigned bytes
no_text bytes none (pos n) fits is =
    let l : n ≤ 2147483647 = leb-true n 2147483647 fits in
    none (subst IsUtf8 (sym is) (IsUtf8-from_ascii (signed_decimal (pos n)) (IsAscii-signed (pos n) (omega (arith, l)))))
no_text bytes none (negsuc n) fits is =
    let l : n ≤ 2147483647 = leb-true n 2147483647 fits in
    none (subst IsUtf8 (sym is) (IsUtf8-from_ascii (signed_decimal (negsuc n)) (IsAscii-signed (negsuc n) (omega (arith, l)))))

-- what is read is the number that is written
pub read_again : {E : Type 0} (z : ℤ) (bytes : List ℕ) (r : Result ℤ E) → is_signed z ≡ true → bytes ≡ signed_decimal z → ParsesSigned w32 10 bytes r → r ≡ Ok z
read_again (pos n) bytes r fits is read =
    let l : n ≤ 2147483647 = leb-true n 2147483647 fits in
    parse-signed_decimal w32 (pos n) bytes r (record { sfits = omega (arith, l) }) (omega (arith, l)) is read
read_again (negsuc n) bytes r fits is read =
    let l : n ≤ 2147483647 = leb-true n 2147483647 fits in
    parse-signed_decimal w32 (negsuc n) bytes r (record { sfits = omega (arith, l) }) (omega (arith, l)) is read

-- where they aren't read,
pub not_read : {E : Type 0} (bytes : List ℕ) (r : Result ℤ E) (e : E) → ParsesSigned w32 10 bytes r → r ≡ Err e → NoSigned bytes
not_read bytes r e read err z fits is = let ok = read_again z bytes r fits is read in cc

-- and where they are read as a number with other digits
pub other_digits : {E : Type 0} (bytes digits : List ℕ) (r : Result ℤ E) (y : ℤ) → ParsesSigned w32 10 bytes r → r ≡ Ok y → digits ≡ signed_decimal y → pointwise nat_eq digits bytes ≡ false → NoSigned bytes
other_digits bytes digits r y read ok of_y other z fits is =
    let again = read_again z bytes r fits is read in
    let same : z ≡ y = cc in
    other_text _ _ (sym other) (of_y ∙ (ap signed_decimal (sym same) ∙ sym is))

-- what is read is in range
in_range : (z : ℤ) → FitsSigned w32 z → is_signed z ≡ true
in_range (pos n) fits = let f = fits.sfits in le-leb n 2147483647 (omega (arith, f))
in_range (negsuc n) fits = let f = fits.sfits in le-leb n 2147483647 (omega (arith, f))

pub read_range : {E : Type 0} (bytes : List ℕ) (r : Result ℤ E) (y : ℤ) → ParsesSigned w32 10 bytes r → r ≡ Ok y → FitsSigned w32 y
read_range bytes (Ok z) y read ok = let is : z ≡ y = cc in subst (FitsSigned w32) (sym read.1 ∙ is) read.0.1
read_range bytes (Err e) y read ok = cc

pub read_fits : {E : Type 0} (bytes : List ℕ) (r : Result ℤ E) (y : ℤ) → ParsesSigned w32 10 bytes r → r ≡ Ok y → is_signed y ≡ true
read_fits bytes r y read ok = in_range y (read_range bytes r y read ok)

-- what is found is what the word says
pub signed_told : (w : List ℕ) (o : Option ℤ) → IfSome o (λ z. is_signed z ≡ true) → IfSome o (λ z. w ≡ signed_decimal z) → IfNone o (NoSigned w) → o ≡ signed_word w
signed_told w (Some z) fits is none = sym (ap signed_word is ∙ signed_reader.back z fits)
signed_told w None fits is none = go (signed_word w) refl
  where
    go : (o : Option ℤ) → signed_word w ≡ o → None ≡ o
    go None e = refl
    go (Some z) e = let r = signed_reader.only w z e in absurd (none z r.0 r.1)
