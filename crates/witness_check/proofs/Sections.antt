-- What is read of the lines of a form is what was written, one form after another.
use Rattle.std.proofs.Common.{◌≡◌, ℕ, suc, ◌<◌, Bool, true, false, cond, List, [], ◌∷◌, ◌++◌, length, take, refl, sym, ◌∙◌, ap, subst, arith}
use Rattle.std.proofs.lemmas.Bool.{and_parts, and_from}
use Rattle.std.proofs.lemmas.Slice.Eq.{bytes_eq-Decides}
use Rattle.witness_check.specs.Forms.{LineForm, Section, broken, guess, has_form, one, read_one, whole, written}
use Rattle.witness_check.specs.Splitting.{is_blank}
use Rattle.witness_check.proofs.Cutting.{AllFree, AllLines, Free, IsLine, line_is_line, words_of_line}

-- a form of a line whose words can be told apart, and tell the value
pub record IsLineForm {A : Type 0} (f : LineForm A) : Type 0 where
  pub blank_fits : f.fits f.blank ≡ true
  pub kind_free : (a : A) → f.fits a ≡ true → Free is_blank (f.kind a)
  pub words_free : (a : A) → f.fits a ≡ true → AllFree is_blank (f.words a)
  pub back : (a : A) → f.fits a ≡ true → f.value (f.kind a ∷ f.words a) ≡ a

module _ {A : Type 0} (f : LineForm A) (ok : IsLineForm f) where
  pub guess_written : (a : A) → f.fits a ≡ true → guess f (written f a) ≡ a
  guess_written a h = ap f.value (words_of_line (f.kind a) (f.words a) (ok.kind_free a h) (ok.words_free a h)) ∙ ok.back a h

  pub written_line : (a : A) → f.fits a ≡ true → IsLine (written f a)
  written_line a h = line_is_line (f.kind a) (f.words a) (ok.kind_free a h) (ok.words_free a h)

  -- a line that is written has its form
  pub written_has_form : (a : A) → f.fits a ≡ true → has_form f (written f a) ≡ true
  written_has_form a h =
      and_from (f.fits (guess f (written f a))) _ (ap f.fits (guess_written a h) ∙ h)
      ((bytes_eq-Decides (written f (guess f (written f a))) (written f a)).1 (ap (written f) (guess_written a h)))

  -- and one that has its form is written for its value
  pub has_form_written : (l : List ℕ) → has_form f l ≡ true → (f.fits (guess f l) ≡ true) × (written f (guess f l) ≡ l)
  has_form_written l h = let (p, q) = and_parts (f.fits (guess f l)) _ h in (p, (bytes_eq-Decides (written f (guess f l)) l).0 q)

-- a form of a list of lines that is read as it is written
pub record IsSection {A : Type 0} (s : Section A) : Type 0 where
  pub blank_fits : s.fits s.blank ≡ true
  pub lines : (a : A) → s.fits a ≡ true → AllLines (s.write a)
  pub back : (a : A) (rest : List (List ℕ)) → s.fits a ≡ true → s.read (s.write a ++ rest) ≡ whole a rest
  pub only : (ls : List (List ℕ)) (a : A) (rest : List (List ℕ)) → s.read ls ≡ whole a rest → (s.fits a ≡ true) × (ls ≡ s.write a ++ rest)
  pub begun : (ls : List (List ℕ)) (a : A) (n : ℕ) → s.read ls ≡ broken a n → (s.fits a ≡ true) × (n < length (s.write a)) × (take n ls ≡ take n (s.write a))
  pub wrong : (ls : List (List ℕ)) (a : A) (n : ℕ) → s.read ls ≡ broken a n → (b : A) (rest : List (List ℕ)) → s.fits b ≡ true
      → take (suc n) ls ≡ take (suc n) (s.write b ++ rest) → ⊥

-- the two answers differ, and tell their parts
pub whole_broken : {A : Type 0} {a b : A} {rest : List (List ℕ)} {n : ℕ} → whole a rest ≡ broken b n → ⊥
whole_broken e = cc

pub whole_value : {A : Type 0} {a b : A} {r s : List (List ℕ)} → whole a r ≡ whole b s → a ≡ b
whole_value e = cc

pub whole_rest : {A : Type 0} {a b : A} {r s : List (List ℕ)} → whole a r ≡ whole b s → r ≡ s
whole_rest e = cc

pub broken_value : {A : Type 0} {a b : A} {m n : ℕ} → broken a m ≡ broken b n → a ≡ b
broken_value e = cc

pub broken_count : {A : Type 0} {a b : A} {m n : ℕ} → broken a m ≡ broken b n → m ≡ n
broken_count e = cc

-- one line
module _ {A : Type 0} (f : LineForm A) (ok : IsLineForm f) where
  one_only : (ls : List (List ℕ)) (a : A) (rest : List (List ℕ)) → read_one f ls ≡ whole a rest → (f.fits a ≡ true) × (ls ≡ (written f a ∷ []) ++ rest)
  one_only [] a rest e = absurd (whole_broken (sym e))
  one_only (l ∷ ls) a rest e = go (has_form f l) refl e
    where
      go : (h : Bool) → has_form f l ≡ h → cond h (whole (guess f l) ls) (broken f.blank 0) ≡ whole a rest → (f.fits a ≡ true) × (l ∷ ls ≡ (written f a ∷ []) ++ rest)
      go true h q =
          let (p, w) = has_form_written f ok l h in
          let v : guess f l ≡ a = whole_value q in
          let r : ls ≡ rest = whole_rest q in
          (subst (λ x. f.fits x ≡ true) v p, ap (λ x. x ∷ ls) (sym w ∙ ap (written f) v) ∙ ap (λ x. written f a ∷ x) r)
      go false h q = absurd (whole_broken (sym q))

  one_begun : (ls : List (List ℕ)) (a : A) (n : ℕ) → read_one f ls ≡ broken a n → (a ≡ f.blank) × (n ≡ 0) × ((b : A) (rest : List (List ℕ)) → f.fits b ≡ true → take 1 ls ≡ take 1 (written f b ∷ rest) → ⊥)
  one_begun [] a n e = (sym (broken_value e), sym (broken_count e), λ b rest h q. cc)
  one_begun (l ∷ ls) a n e = go (has_form f l) refl e
    where
      go : (h : Bool) → has_form f l ≡ h → cond h (whole (guess f l) ls) (broken f.blank 0) ≡ broken a n
          → (a ≡ f.blank) × (n ≡ 0) × ((b : A) (rest : List (List ℕ)) → f.fits b ≡ true → take 1 (l ∷ ls) ≡ take 1 (written f b ∷ rest) → ⊥)
      go true h q = absurd (whole_broken q)
      go false h q = (
        sym (broken_value q),
        sym (broken_count q),
        λ b rest k z.
            let same : l ≡ written f b = cc in
            let yes : has_form f l ≡ true = ap (has_form f) same ∙ written_has_form f ok b k in cc,
      )

  pub one_section : IsSection (one f)
  one_section = record {
    blank_fits = ok.blank_fits;
    lines = λ a h. (written_line f ok a h, tt);
    back = λ a rest h. rw (written_has_form f ok a h, guess_written f ok a h) refl;
    only = one_only;
    begun = λ ls a n e. let (p, q, r) = one_begun ls a n e in rw (p, q) (ok.blank_fits, omega arith, refl);
    wrong = λ ls a n e b rest h z. let (p, q, r) = one_begun ls a n e in r b rest h (subst (λ k. take (suc k) ls ≡ take (suc k) (written f b ∷ rest)) q z);
  }
