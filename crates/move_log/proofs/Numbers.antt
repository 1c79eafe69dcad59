-- A number's digits in a text: where they end, and that they can be read back.
use Rattle.std.proofs.Common.{◌≡◌, ◌≢◌, ℕ, suc, ◌+◌, ◌-◌, ◌<◌, ◌^◌, false, not, cond, nat_eq, nat_lt, List, [], ◌∷◌, ◌++◌, take, drop, length, refl, sym, ◌∙◌, ap, subst, arith, Some, None, get_or}
use Rattle.std.specs.Prelude.{Option, IfNone, Result, Ok, Err, decimal}
use Rattle.std.specs.Cmp.Lexicographic.{other_text, pointwise}
use Rattle.std.specs.List.{position, prefix_len}
use Rattle.std.specs.Str.{IsUtf8}
use Rattle.std.specs.Str.Parse.{AllDigits, ParsesUnsigned}
use Rattle.std.proofs.Math.Seq.{drop-append_seam, drop-cons, take-append_seam}
use Rattle.std.proofs.lemmas.Bool.{eq-eqb, eqb-true, lt-ltb, ne_eqb}
use Rattle.std.proofs.lemmas.Fmt.{IsAscii-decimal, decimal_injective, decimal_is_IsNumeral, parse-decimal}
use Rattle.std.proofs.lemmas.List.{take-append-drop, length-append, take_rest}
use Rattle.std.proofs.lemmas.List.Quantifiers.{position-Some}
use Rattle.std.proofs.lemmas.Str.{IsUtf8-from_ascii}
use Rattle.std.proofs.lemmas.Str.Parse.{digit_from_value}

-- what is said of an option where it is none
pub at_none : {T P : Type 0} (o : Option T) → o ≡ None → P → IfNone o P
at_none {T} {P} o none p = subst (λ x. IfNone x P) (sym none) p

-- some bytes are no number's digits
abbrev pub NoDigits : List ℕ → Type 0
NoDigits bytes = (n : ℕ) → n < 2 ^ 32 → bytes ≢ decimal n

-- where they are no text,
pub no_text : (bytes : List ℕ) → (IsUtf8 bytes → ⊥) → NoDigits bytes
no_text bytes none n fits is = none (subst IsUtf8 (sym is) (IsUtf8-from_ascii (decimal n) (IsAscii-decimal n (omega arith))))

-- where they aren't read,
pub not_read : {E : Type 0} (bytes : List ℕ) (r : Result ℕ E) (e : E) → ParsesUnsigned 32 10 bytes r → r ≡ Err e → NoDigits bytes
not_read bytes r e read err n fits is = let ok = parse-decimal 32 n bytes r fits (omega arith) is read in cc

-- and where they are read as a number with other digits
pub other_digits : {E : Type 0} (bytes digits : List ℕ) (r : Result ℕ E) (m : ℕ) → ParsesUnsigned 32 10 bytes r → r ≡ Ok m → digits ≡ decimal m → pointwise nat_eq digits bytes ≡ false → NoDigits bytes
other_digits bytes digits r m read ok of_m other n fits is =
    let again = parse-decimal 32 n bytes r fits (omega arith) is read in
    let same : n ≡ m = cc in
    other_text _ _ (sym other) (of_m ∙ (ap decimal (sym same) ∙ sym is))

-- the first byte of this kind stands behind the digits
behind_word : (end : ℕ) (word rest : List ℕ) → AllDigits 10 word → end < 48 → prefix_len (λ b. not (nat_eq b end)) (word ++ end ∷ rest) ≡ length word
behind_word end [] rest digits low = ap (λ same. cond (not same) (1 + prefix_len (λ b. not (nat_eq b end)) rest) 0) (eq-eqb end end refl)
behind_word end (c ∷ cs) rest digits low =
    let more : 1 + prefix_len (λ b. not (nat_eq b end)) (cs ++ end ∷ rest) ≡ length (c ∷ cs) = omega (arith, behind_word end cs rest digits.1 low) in
    ap (λ same. cond (not same) (1 + prefix_len (λ b. not (nat_eq b end)) (cs ++ end ∷ rest)) 0)
    (ne_eqb c end (λ e. omega (arith, digit_from_value c digits.0, e)))
    ∙ more

-- so it stands behind a number's digits
behind_number : (end n : ℕ) (rest : List ℕ) → end < 48 → n < 2 ^ 32 → prefix_len (λ b. not (nat_eq b end)) (decimal n ++ end ∷ rest) ≡ length (decimal n)
behind_number end n rest low fits = behind_word end (decimal n) rest (decimal_is_IsNumeral n (omega arith)).0.1 low

-- two numbers with what follows them
pub same_number : (end m n : ℕ) (r s : List ℕ) → end < 48 → m < 2 ^ 32 → n < 2 ^ 32 → decimal m ++ end ∷ r ≡ decimal n ++ end ∷ s → (m ≡ n) × (r ≡ s)
same_number end m n r s low fits fits_too is =
    let long : length (decimal m) ≡ length (decimal n) =
    sym (behind_number end m r low fits) ∙ ap (prefix_len (λ b. not (nat_eq b end))) is ∙ behind_number end n s low fits_too in
    let front : decimal m ≡ decimal n = sym (take-append_seam (decimal m) (end ∷ r)) ∙ (λ i. take (long i) (is i)) ∙ take-append_seam (decimal n) (end ∷ s) in
    let back : end ∷ r ≡ end ∷ s = sym (drop-append_seam (decimal m) (end ∷ r)) ∙ (λ i. drop (long i) (is i)) ∙ drop-append_seam (decimal n) (end ∷ s) in
    (decimal_injective m n (omega arith) (omega arith) front, ap (drop 1) back)

-- a number at the beginning of a text ends at the first byte of this kind
pub number_ends : (end n : ℕ) (text rest : List ℕ) → end < 48 → n < 2 ^ 32 → text ≡ decimal n ++ end ∷ rest → position (λ b. nat_eq b end) text ≡ Some (length (decimal n))
number_ends end n text rest low fits is =
    let word : prefix_len (λ b. not (nat_eq b end)) text ≡ length (decimal n) = ap (prefix_len (λ b. not (nat_eq b end))) is ∙ behind_number end n rest low fits in
    (λ i. cond (nat_lt (word i) (length text)) (Some (word i)) None)
    ∙ ap (λ b. cond b (Some (length (decimal n))) None)
    (lt-ltb _ _ (omega (arith, ap length is, length-append (decimal n) (end ∷ rest))))

-- so where there is none, no number stands there
pub no_end : (end n : ℕ) (text rest : List ℕ) → end < 48 → n < 2 ^ 32 → position (λ b. nat_eq b end) text ≡ None → text ≢ decimal n ++ end ∷ rest
no_end end n text rest low fits none is = let ends = number_ends end n text rest low fits is in cc

-- and the bytes before it are that number's
pub before_end : (end n place : ℕ) (text rest : List ℕ) → end < 48 → n < 2 ^ 32 → position (λ b. nat_eq b end) text ≡ Some place → text ≡ decimal n ++ end ∷ rest → take place text ≡ decimal n
before_end end n place text rest low fits at is =
    let long : place ≡ length (decimal n) = (let ends = number_ends end n text rest low fits is in cc) in
    (λ i. take (long i) (is i)) ∙ take-append_seam (decimal n) (end ∷ rest)

-- a text up to a byte and from it on
pub cut_at : (end place : ℕ) (text word : List ℕ) → position (λ b. nat_eq b end) text ≡ Some place → take place text ≡ word → text ≡ word ++ end ∷ take (length text - (place + 1)) (drop (place + 1) text)
cut_at end place text word at is =
    let found = position-Some (λ b. nat_eq b end) text place 0 at in
    let here : get_or text place 0 ≡ end = eqb-true _ _ found.1 in
    let after : suc place ≡ place + 1 = omega arith in
    sym (take-append-drop place text) ∙ (λ i. is i ++ (drop-cons text place 0 found.0 ∙ (λ j. here j ∷ drop (after j) text)) i) ∙ ap (λ zs. word ++ end ∷ zs) (sym (take_rest text (place + 1)))
