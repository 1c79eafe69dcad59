-- Words that are written are read back, and have no byte that separates.
use Rattle.std.proofs.Common.{◌≡◌, ℕ, suc, ◌<◌, ◌≤◌, ◌^◌, ℤ, pos, negsuc, Bool, true, false, not, ◌&&◌, ◌||◌, nat_eq, eqb, leb, List, [], ◌∷◌, ◌++◌, decimal, length, map, refl, sym, ◌∙◌, ap, subst, arith, eqb-true, leb-true, le-leb, append_assoc}
use Rattle.std.specs.List.{list_all}
use Rattle.std.specs.Fmt.{signed_decimal}
use Rattle.std.specs.Str.Parse.{AllDigits}
use Rattle.std.proofs.lemmas.Bool.{and_parts, and_from}
use Rattle.std.proofs.lemmas.Fmt.{decimal_is_IsNumeral, decimal_nonempty}
use Rattle.std.proofs.lemmas.Str.Parse.{digit_from_value}
use Rattle.obd_base.specs.declared.points.Exit.{Exit}
use Rattle.curve_paths.specs.declared.path.Cross.{Cross}
use Rattle.witness_check.specs.Line.{exit_text}
use Rattle.witness_check.specs.Reading.{cross_of, exit_of, is_cross, is_exit, is_name, is_name_byte, is_number, is_signed, minus, number_of, signed_of}
use Rattle.witness_check.specs.Text.{cross_text}
use Rattle.witness_check.specs.Splitting.{is_blank, pieces_of}
use Rattle.witness_check.proofs.Cutting.{AllFree, Free, free_append, piece_alone, piece_before}

-- a test of single bytes, as a fact
pub free_from_test : (t : ℕ → Bool) (w : List ℕ) → list_all (λ b. not (t b)) w ≡ true → Free t w
free_from_test t [] h = tt
free_from_test t (b ∷ w) h = let (p, q) = and_parts (not (t b)) _ h in (no (t b) p, free_from_test t w q)
  where
    no : (c : Bool) → not c ≡ true → c ≡ false
    no true e = cc
    no false e = refl

-- no byte of a name is a space, a line feed, a colon or a dot
no_name_byte : (k b : ℕ) → is_name_byte k ≡ false → is_name_byte b ≡ true → eqb b k ≡ false
no_name_byte k b e h = go (eqb b k) refl
  where
    go : (c : Bool) → eqb b k ≡ c → c ≡ false
    go false q = refl
    go true q = let s : b ≡ k = eqb-true b k q in let z : is_name_byte k ≡ true = subst (λ x. is_name_byte x ≡ true) s h in cc

no_name_byte_of : (k b : ℕ) → is_name_byte k ≡ false → is_name_byte b ≡ true → eqb k b ≡ false
no_name_byte_of k b e h = go (eqb k b) refl
  where
    go : (c : Bool) → eqb k b ≡ c → c ≡ false
    go false q = refl
    go true q = let s : k ≡ b = eqb-true k b q in let z : is_name_byte k ≡ true = subst (λ x. is_name_byte x ≡ true) (sym s) h in cc

pub plain_no_blank : (w : List ℕ) → list_all is_name_byte w ≡ true → Free is_blank w
plain_no_blank [] h = tt
plain_no_blank (b ∷ w) h =
    let (p, q) = and_parts (is_name_byte b) _ h in
    (rw (no_name_byte 32 b refl p, no_name_byte 10 b refl p) refl, plain_no_blank w q)

pub plain_no_mark : (k : ℕ) → is_name_byte k ≡ false → (w : List ℕ) → list_all is_name_byte w ≡ true → Free (nat_eq k) w
plain_no_mark k e [] h = tt
plain_no_mark k e (b ∷ w) h = let (p, q) = and_parts (is_name_byte b) _ h in (no_name_byte_of k b e p, plain_no_mark k e w q)

pub name_plain : (w : List ℕ) → is_name w ≡ true → list_all is_name_byte w ≡ true
name_plain w h = (and_parts (leb (length w) 16) _ (and_parts (leb 1 (length w)) _ h).1).1

-- digits are bytes of names
digits_plain : (ds : List ℕ) → AllDigits 10 ds → list_all is_name_byte ds ≡ true
digits_plain [] d = refl
digits_plain (c ∷ cs) d =
    let r = digit_from_value c d.0 in
    and_from (is_name_byte c) _ (digit c r.0 r.1) (digits_plain cs d.1)
  where
    right : (a b c e : Bool) → c ≡ true → a || (b || (c || e)) ≡ true
    right true b c e h = refl
    right false true c e h = refl
    right false false c e h = rw h refl

    digit : (c : ℕ) → 48 ≤ c → c ≤ 57 → is_name_byte c ≡ true
    digit c l h = right _ _ (leb 48 c && leb c 57) _ (and_from (leb 48 c) (leb c 57) (le-leb 48 c l) (le-leb c 57 h))

pub decimal_plain : (n : ℕ) → n < 2 ^ 64 → list_all is_name_byte (decimal n) ≡ true
decimal_plain n h = digits_plain (decimal n) (decimal_is_IsNumeral n h).0.1

pub small : (n : ℕ) → is_number n ≡ true → n < 2 ^ 64
small n h = let l : n ≤ 4294967295 = leb-true n 4294967295 h in omega (arith, l)

pub number_back : (n : ℕ) → is_number n ≡ true → number_of (decimal n) ≡ n
number_back n h = (decimal_is_IsNumeral n (small n h)).1

pub number_free : (n : ℕ) → is_number n ≡ true → Free is_blank (decimal n)
number_free n h = plain_no_blank (decimal n) (decimal_plain n (small n h))

-- a word of digits has a first byte, and it is no minus
pub data Digits (w : List ℕ) : Type 0 where
  digits : (b : ℕ) (v : List ℕ) → w ≡ b ∷ v → is_name_byte b ≡ true → Digits w

pub first_digit : (n : ℕ) → n < 2 ^ 64 → Digits (decimal n)
first_digit n h = go (decimal n) refl (decimal_plain n h) (decimal_nonempty n h)
  where
    go : (w : List ℕ) → decimal n ≡ w → list_all is_name_byte w ≡ true → 0 < length w → Digits (decimal n)
    go [] e p l = absurd (omega (arith, l))
    go (b ∷ v) e p l = digits b v e (and_parts (is_name_byte b) _ p).0

pub signed_back : (z : ℤ) → is_signed z ≡ true → signed_of (signed_decimal z) ≡ z
signed_back (pos n) h =
    let l : n ≤ 2147483647 = leb-true n 2147483647 h in
    go (first_digit n (omega (arith, l))) (decimal_is_IsNumeral n (omega (arith, l))).1
  where
    go : Digits (decimal n) → number_of (decimal n) ≡ n → signed_of (decimal n) ≡ pos n
    go (digits b v e p) q = ap signed_of e ∙ (rw (no_name_byte 45 b refl p) refl ∙ ap pos (ap number_of (sym e) ∙ q))
signed_back (negsuc n) h =
    let l : n ≤ 2147483647 = leb-true n 2147483647 h in
    ap minus (decimal_is_IsNumeral (suc n) (omega (arith, l))).1

pub signed_free : (z : ℤ) → is_signed z ≡ true → Free is_blank (signed_decimal z)
signed_free (pos n) h = let l : n ≤ 2147483647 = leb-true n 2147483647 h in plain_no_blank (decimal n) (decimal_plain n (omega (arith, l)))
signed_free (negsuc n) h =
    let l : n ≤ 2147483647 = leb-true n 2147483647 h in
    (refl, plain_no_blank (decimal (suc n)) (decimal_plain (suc n) (omega (arith, l))))

-- a number after the last mark
last_piece : (k n : ℕ) → is_name_byte k ≡ false → is_number n ≡ true → pieces_of (nat_eq k) (decimal n) ≡ decimal n ∷ []
last_piece k n e h = go (first_digit n (small n h)) (plain_no_mark k e (decimal n) (decimal_plain n (small n h)))
  where
    go : Digits (decimal n) → Free (nat_eq k) (decimal n) → pieces_of (nat_eq k) (decimal n) ≡ decimal n ∷ []
    go (digits b v q p) f =
        ap (pieces_of (nat_eq k)) q ∙ (piece_alone (nat_eq k) b v (subst (Free (nat_eq k)) q f) ∙ ap (λ x. x ∷ []) (sym q))

pub exit_back : (e : Exit) → is_exit e ≡ true → exit_of (exit_text e) ≡ e
exit_back e h =
    let (p, q) = and_parts (is_number e.side) (is_number e.place) h in
    let pieces : pieces_of (nat_eq 46) (exit_text e) ≡ decimal e.side ∷ (decimal e.place ∷ []) =
    piece_before (nat_eq 46) (decimal e.side) 46 (decimal e.place) (plain_no_mark 46 refl (decimal e.side) (decimal_plain e.side (small e.side p))) refl
    ∙ ap (λ x. decimal e.side ∷ x) (last_piece 46 e.place refl q) in
    rw (pieces, number_back e.side p, number_back e.place q) refl

pub exit_free : (e : Exit) → is_exit e ≡ true → Free is_blank (exit_text e)
exit_free e h =
    let (p, q) = and_parts (is_number e.side) (is_number e.place) h in
    free_append is_blank (decimal e.side) (46 ∷ decimal e.place) (number_free e.side p) (refl, number_free e.place q)

pub bit_number : (n : ℕ) → leb n 1 ≡ true → is_number n ≡ true
bit_number n h = let l : n ≤ 1 = leb-true n 1 h in le-leb n 4294967295 (omega (arith, l))

pub cross_back : (c : Cross) → is_cross c ≡ true → cross_of (cross_text c) ≡ c
cross_back c h =
    let (n, r) = and_parts (is_name c.label) _ h in
    let (o, p) = and_parts (leb c.occurrence 1) (is_number c.place) r in
    let b = bit_number c.occurrence o in
    let pieces : pieces_of (nat_eq 58) (cross_text c) ≡ c.label ∷ (decimal c.occurrence ∷ (decimal c.place ∷ [])) =
    ap (pieces_of (nat_eq 58)) (append_assoc c.label (58 ∷ decimal c.occurrence) (58 ∷ decimal c.place))
    ∙ (piece_before (nat_eq 58) c.label 58 (decimal c.occurrence ++ (58 ∷ decimal c.place)) (plain_no_mark 58 refl c.label (name_plain c.label n)) refl
    ∙ ap (λ x. c.label ∷ x) (piece_before (nat_eq 58) (decimal c.occurrence) 58 (decimal c.place)
    (plain_no_mark 58 refl (decimal c.occurrence) (decimal_plain c.occurrence (small c.occurrence b))) refl
    ∙ ap (λ x. decimal c.occurrence ∷ x) (last_piece 58 c.place refl p))) in
    rw (pieces, number_back c.occurrence b, number_back c.place p) refl

pub cross_free : (c : Cross) → is_cross c ≡ true → Free is_blank (cross_text c)
cross_free c h =
    let (n, r) = and_parts (is_name c.label) _ h in
    let (o, p) = and_parts (leb c.occurrence 1) (is_number c.place) r in
    free_append is_blank (c.label ++ (58 ∷ decimal c.occurrence)) (58 ∷ decimal c.place)
    (free_append is_blank c.label (58 ∷ decimal c.occurrence) (plain_no_blank c.label (name_plain c.label n)) (refl, number_free c.occurrence (bit_number c.occurrence o)))
    (refl, number_free c.place p)

-- lists of words
pub all_free : {A : Type 0} (t : ℕ → Bool) (f : A → List ℕ) (ok : A → Bool) → ((a : A) → ok a ≡ true → Free t (f a)) → (xs : List A) → list_all ok xs ≡ true → AllFree t (map f xs)
all_free t f ok each [] h = tt
all_free t f ok each (x ∷ xs) h = let (p, q) = and_parts (ok x) (list_all ok xs) h in (each x p, all_free t f ok each xs q)

pub names_free : (names : List (List ℕ)) → list_all is_name names ≡ true → AllFree is_blank names
names_free [] h = tt
names_free (n ∷ names) h = let (p, q) = and_parts (is_name n) (list_all is_name names) h in (plain_no_blank n (name_plain n p), names_free names q)

pub all_back : {A : Type 0} (f : A → List ℕ) (g : List ℕ → A) (ok : A → Bool) → ((a : A) → ok a ≡ true → g (f a) ≡ a) → (xs : List A) → list_all ok xs ≡ true → map g (map f xs) ≡ xs
all_back f g ok each [] h = refl
all_back f g ok each (x ∷ xs) h = let (p, q) = and_parts (ok x) (list_all ok xs) h in rw (each x p, all_back f g ok each xs q) refl
