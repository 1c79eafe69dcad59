-- Words that are read are those that are written.
use Rattle.std.proofs.Common.{◌≡◌, ℕ, Bool, true, false, cond, ◌&&◌, nat_eq, leb, List, [], ◌∷◌, ◌++◌, decimal, map, refl, sym, ◌∙◌, ap, subst, arith, Option, Some, None, eqb-true, append_assoc}
use Rattle.std.specs.Prelude.{option_map}
use Rattle.std.specs.List.{list_all}
use Rattle.std.specs.Fmt.{signed_decimal}
use Rattle.std.specs.Str.{bytes_eq}
use Rattle.std.proofs.lemmas.Bool.{and_parts, and_from}
use Rattle.std.proofs.lemmas.Slice.Eq.{bytes_eq-Decides}
use Rattle.obd_base.specs.declared.points.Exit.{Exit}
use Rattle.curve_paths.specs.declared.path.Cross.{Cross}
use Rattle.witness_check.specs.Line.{exit_text}
use Rattle.witness_check.specs.Reading.{is_cross, is_exit, is_name, is_number, is_signed, number_of, signed_of}
use Rattle.witness_check.specs.Text.{cross_text}
use Rattle.witness_check.specs.Words.{all_words, and_then, bit_word, cross_word, cut_at, exit_word, last_word, name_word, number_word, signed_word, then_word, word_value}
use Rattle.witness_check.proofs.Cutting.{Free}
use Rattle.witness_check.proofs.WordLaws.{bit_number, decimal_plain, name_plain, number_back, plain_no_mark, signed_back, small}

-- a reader of the words of the values that may be written, and of no others
pub record IsReader {A : Type 0} (fits : A → Bool) (text : A → List ℕ) (read : List ℕ → Option A) : Type 0 where
  pub back : (a : A) → fits a ≡ true → read (text a) ≡ Some a
  pub only : (w : List ℕ) (a : A) → read w ≡ Some a → (fits a ≡ true) × (w ≡ text a)

-- what is read of a value that is read
pub record Then {A B : Type 0} (first : Option A) (more : A → Option B) (b : B) : Type 0 where
  pub value : A
  pub first_is : first ≡ Some value
  pub more_is : more value ≡ Some b

pub then_only : {A B : Type 0} (first : Option A) (more : A → Option B) (b : B) → and_then first more ≡ Some b → Then first more b
then_only None more b h = cc
then_only (Some a) more b h = record { value = a; first_is = refl; more_is = h }

pub the_same : {A : Type 0} {a b : A} → Some a ≡ Some b → a ≡ b
the_same h = cc

-- a tested value
pub tested : {A : Type 0} (test : Bool) (a b : A) → cond test (Some a) None ≡ Some b → (test ≡ true) × (a ≡ b)
tested false a b h = cc
tested true a b h = (refl, cc)

pub value_reader : {A : Type 0} (of : List ℕ → A) (fits : A → Bool) (text : A → List ℕ) → ((a : A) → fits a ≡ true → of (text a) ≡ a) → IsReader fits text (word_value of fits text)
value_reader {A = A} of fits text again = record { back = back; only = only }
  where
    back : (a : A) → fits a ≡ true → word_value of fits text (text a) ≡ Some a
    back a h =
        rw (again a h, h, (bytes_eq-Decides (text a) (text a)).1 refl) refl

    only : (w : List ℕ) (a : A) → word_value of fits text w ≡ Some a → (fits a ≡ true) × (w ≡ text a)
    only w a h =
        let (t, e) = tested (fits (of w) && bytes_eq (text (of w)) w) (of w) a h in
        let (p, q) = and_parts (fits (of w)) _ t in
        (ap fits (sym e) ∙ p, sym ((bytes_eq-Decides (text (of w)) w).0 q) ∙ ap text e)

pub number_reader : IsReader is_number decimal number_word
number_reader = value_reader number_of is_number decimal number_back

pub signed_reader : IsReader is_signed signed_decimal signed_word
signed_reader = value_reader signed_of is_signed signed_decimal signed_back

pub name_reader : IsReader is_name (λ w. w) name_word
name_reader = record { back = λ a h. rw h refl; only = only }
  where
    only : (w a : List ℕ) → name_word w ≡ Some a → (is_name a ≡ true) × (w ≡ a)
    only w a h = let (t, e) = tested (is_name w) w a h in (ap is_name (sym e) ∙ t, e)

-- cutting at a byte
pub cut_back : (k : ℕ) (w rest : List ℕ) → Free (nat_eq k) w → cut_at k (w ++ (k ∷ rest)) ≡ Some (w, rest)
cut_back k [] rest f = rw (same k) refl
  where
    same : (k : ℕ) → nat_eq k k ≡ true
    same k = search arith
cut_back k (b ∷ w) rest f = rw (f.0, cut_back k w rest f.1) refl

pub cut_only : (k : ℕ) (w a b : List ℕ) → cut_at k w ≡ Some (a, b) → w ≡ a ++ (k ∷ b)
cut_only k [] a b h = cc
cut_only k (c ∷ w) a b h = go (cut_only k w) (nat_eq k c) refl h
  where
    Again : Type 0
    Again = (a b : List ℕ) → cut_at k w ≡ Some (a, b) → w ≡ a ++ (k ∷ b)

    later : Again → (o : Option (List ℕ × List ℕ)) → cut_at k w ≡ o → option_map {U = List ℕ × List ℕ} (λ p. (c ∷ p.0, p.1)) o ≡ Some (a, b) → c ∷ w ≡ a ++ (k ∷ b)
    later again None d r = cc
    later again (Some p) d r =
        let is : (c ∷ p.0, p.1) ≡ (a, b) = the_same r in
        ap (λ x. c ∷ x) (again p.0 p.1 d) ∙ (λ i. (is i).0 ++ (k ∷ (is i).1))

    go : Again → (t : Bool) → nat_eq k c ≡ t → cond t (Some ([], w)) (option_map {U = List ℕ × List ℕ} (λ p. (c ∷ p.0, p.1)) (cut_at k w)) ≡ Some (a, b) → c ∷ w ≡ a ++ (k ∷ b)
    go again true e q =
        let is : ([], w) ≡ (a, b) = the_same q in
        (λ i. sym (eqb-true k c e) i ∷ w) ∙ (λ i. (is i).0 ++ (k ∷ (is i).1))
    go again false e q = later again (cut_at k w) refl q

pub exit_reader : IsReader is_exit exit_text exit_word
exit_reader = record { back = back; only = only }
  where
    back : (e : Exit) → is_exit e ≡ true → exit_word (exit_text e) ≡ Some e
    back e h =
        let (p, q) = and_parts (is_number e.side) (is_number e.place) h in
        rw (cut_back 46 (decimal e.side) (decimal e.place) (plain_no_mark 46 refl (decimal e.side) (decimal_plain e.side (small e.side p))), number_reader.back e.side p, number_reader.back e.place q) refl

    only : (w : List ℕ) (e : Exit) → exit_word w ≡ Some e → (is_exit e ≡ true) × (w ≡ exit_text e)
    only w e h =
        let cut = then_only (cut_at 46 w) _ e h in
        let side = then_only (number_word cut.value.0) _ e cut.more_is in
        let place = then_only (number_word cut.value.1) _ e side.more_is in
        let a = number_reader.only _ side.value side.first_is in
        let b = number_reader.only _ place.value place.first_is in
        let is : record { side = side.value; place = place.value } ≡ e = the_same place.more_is in
        subst (λ x. (is_exit x ≡ true) × (w ≡ exit_text x)) is
        (and_from (is_number side.value) _ a.0 b.0, cut_only 46 w cut.value.0 cut.value.1 cut.first_is ∙ (λ i. a.1 i ++ (46 ∷ b.1 i)))

pub bit_reader : IsReader (λ n. leb n 1) decimal bit_word
bit_reader = record { back = back; only = only }
  where
    back : (n : ℕ) → leb n 1 ≡ true → bit_word (decimal n) ≡ Some n
    back n h = rw (number_reader.back n (bit_number n h), h) refl

    only : (w : List ℕ) (n : ℕ) → bit_word w ≡ Some n → (leb n 1 ≡ true) × (w ≡ decimal n)
    only w n h =
        let read = then_only (number_word w) _ n h in
        let (t, e) = tested (leb read.value 1) read.value n read.more_is in
        (ap (λ x. leb x 1) (sym e) ∙ t, (number_reader.only w read.value read.first_is).1 ∙ ap decimal e)

pub cross_reader : IsReader is_cross cross_text cross_word
cross_reader = record { back = back; only = only }
  where
    back : (c : Cross) → is_cross c ≡ true → cross_word (cross_text c) ≡ Some c
    back c h =
        let (n, r) = and_parts (is_name c.label) _ h in
        let (o, p) = and_parts (leb c.occurrence 1) (is_number c.place) r in
        let whole : cross_text c ≡ c.label ++ (58 ∷ (decimal c.occurrence ++ (58 ∷ decimal c.place))) = append_assoc c.label (58 ∷ decimal c.occurrence) (58 ∷ decimal c.place) in
        let first = cut_back 58 c.label (decimal c.occurrence ++ (58 ∷ decimal c.place)) (plain_no_mark 58 refl c.label (name_plain c.label n)) in
        let second = cut_back 58 (decimal c.occurrence) (decimal c.place) (plain_no_mark 58 refl (decimal c.occurrence) (decimal_plain c.occurrence (small c.occurrence (bit_number c.occurrence o)))) in
        ap cross_word whole ∙ rw (first, name_reader.back c.label n, second, bit_reader.back c.occurrence o, number_reader.back c.place p) refl

    only : (w : List ℕ) (c : Cross) → cross_word w ≡ Some c → (is_cross c ≡ true) × (w ≡ cross_text c)
    only w c h =
        let cut = then_only (cut_at 58 w) _ c h in
        let label = then_only (name_word cut.value.0) _ c cut.more_is in
        let again = then_only (cut_at 58 cut.value.1) _ c label.more_is in
        let bit = then_only (bit_word again.value.0) _ c again.more_is in
        let place = then_only (number_word again.value.1) _ c bit.more_is in
        let l = name_reader.only _ label.value label.first_is in
        let b = bit_reader.only _ bit.value bit.first_is in
        let p = number_reader.only _ place.value place.first_is in
        let is : record { label = label.value; occurrence = bit.value; place = place.value } ≡ c = the_same place.more_is in
        let more : cut.value.1 ≡ decimal bit.value ++ (58 ∷ decimal place.value) =
        cut_only 58 cut.value.1 again.value.0 again.value.1 again.first_is ∙ (λ i. b.1 i ++ (58 ∷ p.1 i)) in
        let whole : w ≡ label.value ++ (58 ∷ (decimal bit.value ++ (58 ∷ decimal place.value))) =
        cut_only 58 w cut.value.0 cut.value.1 cut.first_is ∙ (λ i. l.1 i ++ (58 ∷ more i)) in
        subst (λ x. (is_cross x ≡ true) × (w ≡ cross_text x)) is
        (and_from (is_name label.value) _ l.0 (and_from (leb bit.value 1) _ b.0 p.0), whole ∙ sym (append_assoc label.value (58 ∷ decimal bit.value) (58 ∷ decimal place.value)))

-- the first word and those behind it
pub record Front {A B : Type 0} (fits : A → Bool) (text : A → List ℕ) (more : A → List (List ℕ) → Option B) (words : List (List ℕ)) (b : B) : Type 0 where
  pub value : A
  pub rest : List (List ℕ)
  pub fits_it : fits value ≡ true
  pub words_are : words ≡ text value ∷ rest
  pub more_is : more value rest ≡ Some b

pub front : {A B : Type 0} (fits : A → Bool) (text : A → List ℕ) (read : List ℕ → Option A) → IsReader fits text read → (more : A → List (List ℕ) → Option B) (words : List (List ℕ)) (b : B)
    → then_word read more words ≡ Some b → Front fits text more words b
front fits text read r more [] b h = cc
front fits text read r more (w ∷ ws) b h =
    let t = then_only (read w) _ b h in
    let only = r.only w t.value t.first_is in
    record { value = t.value; rest = ws; fits_it = only.0; words_are = ap (λ x. x ∷ ws) only.1; more_is = t.more_is }

pub last_only : {A : Type 0} (a b : A) (words : List (List ℕ)) → last_word a words ≡ Some b → (words ≡ []) × (a ≡ b)
last_only a b [] h = (refl, cc)
last_only a b (w ∷ ws) h = cc

-- all words
pub all_words_back : {A : Type 0} (fits : A → Bool) (text : A → List ℕ) (read : List ℕ → Option A) → IsReader fits text read → (xs : List A) → list_all fits xs ≡ true → all_words read (map text xs) ≡ Some xs
all_words_back fits text read r [] h = refl
all_words_back fits text read r (x ∷ xs) h =
    let (p, q) = and_parts (fits x) (list_all fits xs) h in
    rw (r.back x p, all_words_back fits text read r xs q) refl

pub all_words_only : {A : Type 0} (fits : A → Bool) (text : A → List ℕ) (read : List ℕ → Option A) → IsReader fits text read → (ws : List (List ℕ)) (xs : List A) → all_words read ws ≡ Some xs
    → (list_all fits xs ≡ true) × (ws ≡ map text xs)
all_words_only fits text read r [] xs h = let e : [] ≡ xs = the_same h in subst (λ x. (list_all fits x ≡ true) × ([] ≡ map text x)) e (refl, refl)
all_words_only {A} fits text read r (w ∷ ws) xs h =
    let t = then_only (read w) _ xs h in
    go (all_words_only fits text read r ws) t.value (r.only w t.value t.first_is) (all_words read ws) refl t.more_is
  where
    go : ((ys : List A) → all_words read ws ≡ Some ys → (list_all fits ys ≡ true) × (ws ≡ map text ys))
        → (a : A) → (fits a ≡ true) × (w ≡ text a) → (o : Option (List A)) → all_words read ws ≡ o → option_map (λ ys. a ∷ ys) o ≡ Some xs → (list_all fits xs ≡ true) × (w ∷ ws ≡ map text xs)
    go again a f None e q = cc
    go again a f (Some ys) e q =
        let rest = again ys e in
        let is : a ∷ ys ≡ xs = the_same q in
        subst (λ x. (list_all fits x ≡ true) × (w ∷ ws ≡ map text x)) is (and_from (fits a) _ f.0 rest.0, (λ i. f.1 i ∷ rest.1 i))
