-- Numbers and names as std reads them.
use Rattle.std.proofs.Common.{◌≡◌, ◌≢◌, ℕ, zero, suc, ◌<◌, ◌≤◌, ◌^◌, Bool, cond, ◌&&◌, ◌||◌, leb, eqb, eqb-true, true, false, nat_eq, List, [], ◌∷◌, decimal, sym, ◌∙◌, ap, subst, refl, arith, Some, None, leb-true, le-leb}
use Rattle.std.specs.Prelude.{Option, IfNone, IfSome, Result, Ok, Err, slice_index}
use Rattle.std.specs.Cmp.Lexicographic.{other_text, pointwise}
use Rattle.std.specs.List.{list_all}
use Rattle.std.specs.Str.{IsUtf8}
use Rattle.std.specs.Str.Parse.{ParsesUnsigned}
use Rattle.std.proofs.lemmas.Bool.{and_parts}
use Rattle.std.proofs.lemmas.Fmt.{IsAscii-decimal, parse-decimal}
use Rattle.std.proofs.lemmas.Str.{IsUtf8-from_ascii}
use Rattle.witness_check.specs.Reading.{is_name, is_name_byte}
use Rattle.witness_check.specs.Words.{name_word, number_word}
use Rattle.witness_check.proofs.WordLaws.{name_plain}
use Rattle.witness_check.proofs.WordReaders.{number_reader}

-- some bytes are no number's digits
abbrev pub NoDigits : List ℕ → Type 0
NoDigits bytes = (n : ℕ) → n < 2 ^ 32 → bytes ≢ decimal n

-- where they are no text,
pub no_text : (bytes : List ℕ) → (IsUtf8 bytes → ⊥) → NoDigits bytes
no_text bytes none n fits is = none (subst IsUtf8 (sym is) (IsUtf8-from_ascii (decimal n) (IsAscii-decimal n (omega arith))))

-- where they aren't read,
pub not_read : {E : Type 0} (bytes : List ℕ) (r : Result ℕ E) (e : E) → ParsesUnsigned 32 10 bytes r → r ≡ Err e → NoDigits bytes
not_read bytes r e read err n fits is = let ok = parse-decimal 32 n bytes r fits (omega arith) is read in cc

-- and where they are read as a number with other digits
pub other_digits : {E : Type 0} (bytes digits : List ℕ) (r : Result ℕ E) (m : ℕ) → ParsesUnsigned 32 10 bytes r → r ≡ Ok m → digits ≡ decimal m → pointwise nat_eq digits bytes ≡ false → NoDigits bytes
other_digits bytes digits r m read ok of_m other n fits is =
    let again = parse-decimal 32 n bytes r fits (omega arith) is read in
    let same : n ≡ m = cc in
    other_text _ _ (sym other) (of_m ∙ (ap decimal (sym same) ∙ sym is))

-- what is found is what the word says
pub number_told : (w : List ℕ) (o : Option ℕ) → IfSome o (λ n. n < 2 ^ 32) → IfSome o (λ n. w ≡ decimal n) → IfNone o (NoDigits w) → o ≡ number_word w
number_told w (Some n) fits is none = sym (ap number_word is ∙ number_reader.back n (le-leb n 4294967295 (omega (arith, fits))))
number_told w None fits is none = go (number_word w) refl
  where
    go : (o : Option ℕ) → number_word w ≡ o → None ≡ o
    go None e = refl
    go (Some n) e =
        let r = number_reader.only w n e in
        let l : n ≤ 4294967295 = leb-true n 4294967295 r.0 in
        absurd (none n (omega (arith, l)) r.1)

-- the bytes of a name are below 128
pick : {P : Type 0} (p q r s : Bool) → (p ≡ true → P) → (q ≡ true → P) → (r ≡ true → P) → (s ≡ true → P) → p || (q || (r || s)) ≡ true → P
pick true q r s f g h k e = f refl
pick false true r s f g h k e = g refl
pick false false true s f g h k e = h refl
pick false false false s f g h k e = k e

low : (b : ℕ) → is_name_byte b ≡ true → b < 128
low b h =
    pick (leb 65 b && leb b 90) (leb 97 b && leb b 122) (leb 48 b && leb b 57) (eqb b 95)
    (λ e. let l = leb-true b 90 (and_parts (leb 65 b) _ e).1 in omega (arith, l))
    (λ e. let l = leb-true b 122 (and_parts (leb 97 b) _ e).1 in omega (arith, l))
    (λ e. let l = leb-true b 57 (and_parts (leb 48 b) _ e).1 in omega (arith, l))
    (λ e. let l = eqb-true b 95 e in omega (arith, l)) h

names_low : (w : List ℕ) → list_all is_name_byte w ≡ true → (i : ℕ) → slice_index w i < 128
names_low [] h i = omega arith
names_low (b ∷ w) h zero = low b (and_parts (is_name_byte b) _ h).0
names_low (b ∷ w) h (suc i) = names_low w (and_parts (is_name_byte b) _ h).1 i

-- what is no text is no name
pub no_name : (w : List ℕ) → (IsUtf8 w → ⊥) → name_word w ≡ None
no_name w none = go (is_name w) refl
  where
    go : (b : Bool) → is_name w ≡ b → cond b (Some w) None ≡ None
    go false e = refl
    go true e = absurd (none (IsUtf8-from_ascii w (names_low w (name_plain w e))))
