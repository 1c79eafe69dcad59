-- A line is read by its words.
use Rattle.std.proofs.Common.{◌≡◌, ℕ, Bool, true, false, cond, nat_eq, List, [], ◌∷◌, ◌++◌, refl, sym, ◌∙◌, ap, subst, Option, Some, None, eqb-true}
use Rattle.std.specs.Str.{bytes_eq}
use Rattle.std.proofs.lemmas.Slice.Eq.{bytes_eq-Decides}
use Rattle.witness_check.specs.Forms.{LineForm, guess, has_form, value_in, written}
use Rattle.witness_check.specs.Line.{line, spaced}
use Rattle.witness_check.specs.Splitting.{words_of}
use Rattle.witness_check.specs.RowWords.{behind_kind, kind_words}
use Rattle.witness_check.specs.Words.{and_then, is_line, line_words}
use Rattle.witness_check.proofs.Cutting.{Free, IsLine, words_of_line}
use Rattle.witness_check.proofs.LineWords.{line_true, true_line}
use Rattle.witness_check.proofs.Sections.{IsLineForm, has_form_written, written_has_form, written_line}
use Rattle.witness_check.proofs.WordReaders.{then_only, tested}

-- the words of a line, put together again
abbrev pub rejoined : List (List ℕ) → List ℕ
rejoined [] = []
rejoined (w ∷ ws) = line w ws

-- some words, of which there is one at least
data Some_words (l : List ℕ) : Type 0 where
  some_words : (w : List ℕ) (ws : List (List ℕ)) → words_of l ≡ w ∷ ws → line w ws ≡ l → Some_words l

line_has_words : (body : List ℕ) → Free (λ b. nat_eq b 10) body → Some_words (body ++ (10 ∷ []))
unfolding line
line_has_words [] f = some_words [] [] refl refl
line_has_words (b ∷ body) f = go (nat_eq b 32) refl (line_has_words body f.1)
  where
    go : (c : Bool) → nat_eq b 32 ≡ c → Some_words (body ++ (10 ∷ [])) → Some_words (b ∷ (body ++ (10 ∷ [])))
    go true e (some_words w ws h k) = some_words [] (w ∷ ws) (rw (e, h) refl) (space ∙ ap (λ l. b ∷ l) k)
      where
        is_space : 32 ≡ b
        is_space = sym (eqb-true b 32 e)

        space : (32 ∷ (w ++ spaced ws)) ++ (10 ∷ []) ≡ b ∷ ((w ++ spaced ws) ++ (10 ∷ []))
        space = ap (λ x. x ∷ ((w ++ spaced ws) ++ (10 ∷ []))) is_space
    go false e (some_words w ws h k) = some_words (b ∷ w) ws (rw (e, f.0, h) refl) (ap (λ l. b ∷ l) k)

pub rejoined_line : (l : List ℕ) → IsLine l → rejoined (words_of l) ≡ l
rejoined_line l i = subst (λ x. rejoined (words_of x) ≡ x) (sym i.whole) (go (line_has_words i.body i.free))
  where
    go : Some_words (i.body ++ (10 ∷ [])) → rejoined (words_of (i.body ++ (10 ∷ []))) ≡ i.body ++ (10 ∷ [])
    go (some_words w ws h k) = ap rejoined h ∙ k

-- a reader of the words of a form
pub record ReadsLine {A : Type 0} (f : LineForm A) (read : List (List ℕ) → Option A) : Type 0 where
  pub back : (a : A) → f.fits a ≡ true → read (f.kind a ∷ f.words a) ≡ Some a
  pub only : (ws : List (List ℕ)) (a : A) → read ws ≡ Some a → (f.fits a ≡ true) × (ws ≡ f.kind a ∷ f.words a)

-- reads the line
pub line_read : {A : Type 0} (f : LineForm A) → IsLineForm f → (read : List (List ℕ) → Option A) → ReadsLine f read → (l : List ℕ) → and_then (line_words l) read ≡ value_in f l
line_read {A = A} f ok read r l = go (has_form f l) refl
  where
    none : (o : Option A) → and_then (line_words l) read ≡ o → has_form f l ≡ false → o ≡ None
    none None e h = refl
    none (Some a) e h =
        let t = then_only (line_words l) read a e in
        let (is, ws) = tested (is_line l) (words_of l) t.value t.first_is in
        let (fits, words) = r.only t.value a t.more_is in
        let same : written f a ≡ l = ap rejoined (sym (ws ∙ words)) ∙ rejoined_line l (true_line l is) in
        let yes : has_form f l ≡ true = subst (λ x. has_form f x ≡ true) same (written_has_form f ok a fits) in
        cc

    go : (b : Bool) → has_form f l ≡ b → and_then (line_words l) read ≡ cond b (Some (guess f l)) None
    go false h = none (and_then (line_words l) read) refl h
    go true h =
        let (fits, same) = has_form_written f ok l h in
        let a = guess f l in
        let is : is_line l ≡ true = line_true l (subst IsLine same (written_line f ok a fits)) in
        let words : words_of l ≡ f.kind a ∷ f.words a = ap words_of (sym same) ∙ words_of_line (f.kind a) (f.words a) (ok.kind_free a fits) (ok.words_free a fits) in
        ap (λ x. and_then (cond x (Some (words_of l)) None) read) is ∙ (ap read words ∙ r.back a fits)

-- a reader of the words behind the kind of a form
pub record ReadsWords {A : Type 0} (f : LineForm A) (kind : List ℕ) (read : List (List ℕ) → Option A) : Type 0 where
  pub kind_is : (a : A) → f.kind a ≡ kind
  pub back : (a : A) → f.fits a ≡ true → read (f.words a) ≡ Some a
  pub only : (ws : List (List ℕ)) (a : A) → read ws ≡ Some a → (f.fits a ≡ true) × (ws ≡ f.words a)

-- the words are those behind the kind
pub kind_only : (kind : List ℕ) (ws rest : List (List ℕ)) → behind_kind kind ws ≡ Some rest → ws ≡ kind ∷ rest
kind_only kind [] rest h = cc
kind_only kind (w ∷ ws) rest h =
    let (same, is) = tested (bytes_eq w kind) ws rest h in
    (λ i. (bytes_eq-Decides w kind).0 same i ∷ is i)

pub kind_back : (kind : List ℕ) (ws : List (List ℕ)) → behind_kind kind (kind ∷ ws) ≡ Some ws
kind_back kind ws = rw ((bytes_eq-Decides kind kind).1 refl) refl

pub words_read : {A : Type 0} (f : LineForm A) → IsLineForm f → (kind : List ℕ) (read : List (List ℕ) → Option A) → ReadsWords f kind read → (l : List ℕ) → and_then (kind_words kind l) read ≡ value_in f l
words_read {A = A} f ok kind read r l = twice (line_words l) ∙ line_read f ok (λ ws. and_then (behind_kind kind ws) read) (record { back = back; only = only }) l
  where
    twice : (o : Option (List (List ℕ))) → and_then (and_then o (behind_kind kind)) read ≡ and_then o (λ ws. and_then (behind_kind kind ws) read)
    twice None = refl
    twice (Some ws) = refl

    back : (a : A) → f.fits a ≡ true → and_then (behind_kind kind (f.kind a ∷ f.words a)) read ≡ Some a
    back a h = ap (λ k. and_then (behind_kind kind (k ∷ f.words a)) read) (r.kind_is a) ∙ (ap (λ o. and_then o read) (kind_back kind (f.words a)) ∙ r.back a h)

    only : (ws : List (List ℕ)) (a : A) → and_then (behind_kind kind ws) read ≡ Some a → (f.fits a ≡ true) × (ws ≡ f.kind a ∷ f.words a)
    only ws a h =
        let t = then_only (behind_kind kind ws) read a h in
        let (fits, words) = r.only t.value a t.more_is in
        (fits, kind_only kind ws t.value t.first_is ∙ (λ i. sym (r.kind_is a) i ∷ words i))
