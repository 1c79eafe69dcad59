-- Many lines of a form, and the same lines for another value.
use Rattle.std.proofs.Common.{◌≡◌, ℕ, zero, suc, ◌+◌, ◌<◌, ◌≤◌, Bool, true, false, cond, ◌&&◌, eqb, List, [], ◌∷◌, ◌++◌, length, take, refl, sym, ◌∙◌, ap, subst, arith, eqb-true, eq-eqb}
use Rattle.std.proofs.lemmas.Bool.{and_parts, and_from}
use Rattle.witness_check.specs.Forms.{Begun, LineForm, Section, after_row, begun_as, blank_rows, broken, guess, has_form, read_rows, rows, rows_fit, seen_as, whole, write_rows, written}
use Rattle.witness_check.proofs.Cutting.{AllLines}
use Rattle.witness_check.proofs.Sections.{IsLineForm, IsSection, broken_count, broken_value, guess_written, has_form_written, whole_broken, whole_rest, whole_value, written_has_form, written_line}

-- the forms of so many lines, from a number on
abbrev pub FormsFrom : {A : Type 0} → (ℕ → LineForm A) → ℕ → ℕ → Type 0
FormsFrom form i n = (j : ℕ) → i ≤ j → j < i + n → IsLineForm (form j)

module _ {A : Type 0} (form : ℕ → LineForm A) where
  at_first : (i n : ℕ) → FormsFrom form i (suc n) → IsLineForm (form i)
  at_first i n f = f i (omega arith) (omega arith)

  at_others : (i n : ℕ) → FormsFrom form i (suc n) → FormsFrom form (suc i) n
  at_others i n f = λ j a b. f j (omega arith) (omega arith)

  blanks : (i n : ℕ) → FormsFrom form i n → (length (blank_rows form i n) ≡ n) × (rows_fit form i (blank_rows form i n) ≡ true)
  blanks i zero f = (refl, refl)
  blanks i (suc n) f =
      let (a, b) = blanks (suc i) n (at_others i n f) in
      (omega (arith, a), and_from ((form i).fits (form i).blank) _ (at_first i n f).blank_fits b)

  rows_lines : (i n : ℕ) (xs : List A) → FormsFrom form i n → length xs ≡ n → rows_fit form i xs ≡ true → AllLines (write_rows form i xs)
  rows_lines i n [] f l h = tt
  rows_lines i zero (x ∷ xs) f l h = absurd (omega (arith, l))
  rows_lines i (suc n) (x ∷ xs) f l h =
      let (p, q) = and_parts ((form i).fits x) (rows_fit form (suc i) xs) h in
      (written_line (form i) (at_first i n f) x p, rows_lines (suc i) n xs (at_others i n f) (omega (arith, l)) q)

  rows_back : (i n : ℕ) (xs : List A) (rest : List (List ℕ)) → FormsFrom form i n → length xs ≡ n → rows_fit form i xs ≡ true
      → read_rows form i n (write_rows form i xs ++ rest) ≡ whole xs rest
  rows_back i zero [] rest f l h = refl
  rows_back i zero (x ∷ xs) rest f l h = absurd (omega (arith, l))
  rows_back i (suc n) [] rest f l h = absurd (omega (arith, l))
  rows_back i (suc n) (x ∷ xs) rest f l h =
      let (p, q) = and_parts ((form i).fits x) (rows_fit form (suc i) xs) h in
      rw (
        written_has_form (form i) (at_first i n f) x p,
        guess_written (form i) (at_first i n f) x p,
        rows_back (suc i) n xs rest (at_others i n f) (omega (arith, l)) q,
      ) refl

  rows_only : (i n : ℕ) (ls : List (List ℕ)) (xs : List A) (rest : List (List ℕ)) → FormsFrom form i n → read_rows form i n ls ≡ whole xs rest
      → (length xs ≡ n) × (rows_fit form i xs ≡ true) × (ls ≡ write_rows form i xs ++ rest)
  rows_only i zero ls xs rest f e =
      let v : [] ≡ xs = whole_value e in
      let r : ls ≡ rest = whole_rest e in
      subst (λ (y : List A). (length y ≡ 0) × (rows_fit form i y ≡ true) × (ls ≡ write_rows form i y ++ rest)) v (refl, refl, r)
  rows_only i (suc n) [] xs rest f e = absurd (whole_broken (sym e))
  rows_only i (suc n) (l ∷ ls) xs rest f e = go (has_form (form i) l) refl e (λ ys r k. rows_only (suc i) n ls ys r (at_others i n f) k)
    where
      Rest : Type 0
      Rest = (ys : List A) (r : List (List ℕ)) → read_rows form (suc i) n ls ≡ whole ys r
          → (length ys ≡ n) × (rows_fit form (suc i) ys ≡ true) × (ls ≡ write_rows form (suc i) ys ++ r)

      Goal : List A → Type 0
      Goal ys = (length ys ≡ suc n) × (rows_fit form i ys ≡ true) × (l ∷ ls ≡ write_rows form i ys ++ rest)

      go : (b : Bool) → has_form (form i) l ≡ b
          → cond b (after_row (guess (form i) l) (read_rows form (suc i) n ls)) (broken (blank_rows form i (suc n)) 0) ≡ whole xs rest → Rest → Goal xs
      go false h q then = absurd (whole_broken (sym q))
      go true h q then = next (read_rows form (suc i) n ls) refl q
        where
          next : (r : Begun (List A)) → read_rows form (suc i) n ls ≡ r → after_row (guess (form i) l) r ≡ whole xs rest → Goal xs
          next (broken ys m) z k = absurd (whole_broken (sym k))
          next (whole ys more) z k =
              let v : guess (form i) l ∷ ys ≡ xs = whole_value k in
              let r : more ≡ rest = whole_rest k in
              let (a, b, c) = then ys rest (z ∙ ap (whole ys) r) in
              let (p, w) = has_form_written (form i) (at_first i n f) l h in
              subst Goal v (
                omega (arith, a),
                and_from ((form i).fits (guess (form i) l)) (rows_fit form (suc i) ys) p b,
                ap (λ x. x ∷ ls) (sym w) ∙ ap (λ x. written (form i) (guess (form i) l) ∷ x) c,
              )

  rows_begun : (i n : ℕ) (ls : List (List ℕ)) (xs : List A) (m : ℕ) → FormsFrom form i n → read_rows form i n ls ≡ broken xs m
      → (length xs ≡ n) × (rows_fit form i xs ≡ true) × (m < length (write_rows form i xs)) × (take m ls ≡ take m (write_rows form i xs))
  rows_begun i zero ls xs m f e = absurd (whole_broken e)
  rows_begun i (suc n) [] xs m f e = at_blank (broken_value e) (broken_count e)
    where
      at_blank : blank_rows form i (suc n) ≡ xs → 0 ≡ m
          → (length xs ≡ suc n) × (rows_fit form i xs ≡ true) × (m < length (write_rows form i xs)) × (take m [] ≡ take m (write_rows form i xs))
      at_blank v c =
          let (a, b) = blanks i (suc n) f in
          subst (λ (y : List A). (length y ≡ suc n) × (rows_fit form i y ≡ true) × (m < length (write_rows form i y)) × (take m [] ≡ take m (write_rows form i y))) v
          (a, b, omega (arith, c), subst (λ k. take k [] ≡ take k (write_rows form i (blank_rows form i (suc n)))) c refl)
  rows_begun i (suc n) (l ∷ ls) xs m f e = go (has_form (form i) l) refl e (λ ys k z. rows_begun (suc i) n ls ys k (at_others i n f) z)
    where
      Goal : List A → ℕ → Type 0
      Goal ys k = (length ys ≡ suc n) × (rows_fit form i ys ≡ true) × (k < length (write_rows form i ys)) × (take k (l ∷ ls) ≡ take k (write_rows form i ys))

      Rest : Type 0
      Rest = (ys : List A) (k : ℕ) → read_rows form (suc i) n ls ≡ broken ys k
          → (length ys ≡ n) × (rows_fit form (suc i) ys ≡ true) × (k < length (write_rows form (suc i) ys)) × (take k ls ≡ take k (write_rows form (suc i) ys))

      go : (b : Bool) → has_form (form i) l ≡ b
          → cond b (after_row (guess (form i) l) (read_rows form (suc i) n ls)) (broken (blank_rows form i (suc n)) 0) ≡ broken xs m → Rest → Goal xs m
      go false h q then =
          let (a, b) = blanks i (suc n) f in
          let v : blank_rows form i (suc n) ≡ xs = broken_value q in
          let c : 0 ≡ m = broken_count q in
          subst (λ k. Goal xs k) c (subst (λ y. Goal y 0) v (a, b, omega arith, refl))
      go true h q then = next (read_rows form (suc i) n ls) refl q
        where
          next : (r : Begun (List A)) → read_rows form (suc i) n ls ≡ r → after_row (guess (form i) l) r ≡ broken xs m → Goal xs m
          next (whole ys more) z k = absurd (whole_broken k)
          next (broken ys j) z k =
              let v : guess (form i) l ∷ ys ≡ xs = broken_value k in
              let c : suc j ≡ m = broken_count k in
              let (a, b, d, t) = then ys j z in
              let (p, w) = has_form_written (form i) (at_first i n f) l h in
              subst (λ k. Goal xs k) c (subst (λ y. Goal y (suc j)) v (
                omega (arith, a),
                and_from ((form i).fits (guess (form i) l)) (rows_fit form (suc i) ys) p b,
                omega (arith, d),
                ap (λ x. x ∷ take j ls) (sym w) ∙ ap (λ x. written (form i) (guess (form i) l) ∷ x) t,
              ))

  rows_wrong : (i n : ℕ) (ls : List (List ℕ)) (xs : List A) (m : ℕ) → FormsFrom form i n → read_rows form i n ls ≡ broken xs m
      → (ys : List A) (rest : List (List ℕ)) → length ys ≡ n → rows_fit form i ys ≡ true → take (suc m) ls ≡ take (suc m) (write_rows form i ys ++ rest) → ⊥
  rows_wrong i zero ls xs m f e ys rest c h q = absurd (whole_broken e)
  rows_wrong i (suc n) ls xs m f e [] rest c h q = absurd (omega (arith, c))
  rows_wrong i (suc n) [] xs m f e (y ∷ ys) rest c h q = cc
  rows_wrong i (suc n) (l ∷ ls) xs m f e (y ∷ ys) rest c h q =
      go (has_form (form i) l) refl e (λ zs k z t. rows_wrong (suc i) n ls zs k (at_others i n f) z ys rest (omega (arith, c)) (and_parts ((form i).fits y) (rows_fit form (suc i) ys) h).1 t)
    where
      same : l ≡ written (form i) y
      same = cc

      others : take m ls ≡ take m (write_rows form (suc i) ys ++ rest)
      others = cc

      go : (b : Bool) → has_form (form i) l ≡ b
          → cond b (after_row (guess (form i) l) (read_rows form (suc i) n ls)) (broken (blank_rows form i (suc n)) 0) ≡ broken xs m
          → ((zs : List A) (k : ℕ) → read_rows form (suc i) n ls ≡ broken zs k → take (suc k) ls ≡ take (suc k) (write_rows form (suc i) ys ++ rest) → ⊥) → ⊥
      go false b z then =
          let yes : has_form (form i) l ≡ true = ap (has_form (form i)) same ∙ written_has_form (form i) (at_first i n f) y (and_parts ((form i).fits y) (rows_fit form (suc i) ys) h).0 in
          cc
      go true b z then = next (read_rows form (suc i) n ls) refl z
        where
          next : (r : Begun (List A)) → read_rows form (suc i) n ls ≡ r → after_row (guess (form i) l) r ≡ broken xs m → ⊥
          next (whole zs more) w k = whole_broken k
          next (broken zs j) w k =
              let d : suc j ≡ m = broken_count k in
              then zs j w (subst (λ x. take x ls ≡ take x (write_rows form (suc i) ys ++ rest)) (sym d) others)

-- so many lines of a form
pub rows_section : {A : Type 0} (form : ℕ → LineForm A) (n : ℕ) → ((j : ℕ) → j < n → IsLineForm (form j)) → IsSection (rows form n)
rows_section {A = A} form n ok = record {
  blank_fits = (let (a, b) = blanks form 0 n f in and_from (eqb (length (blank_rows form 0 n)) n) _ (eq-eqb _ _ a) b);
  lines = λ xs h. let (p, q) = fitting xs h in rows_lines form 0 n xs f p q;
  back = λ xs rest h. let (p, q) = fitting xs h in rows_back form 0 n xs rest f p q;
  only = λ ls xs rest e. let (a, b, c) = rows_only form 0 n ls xs rest f e in (and_from (eqb (length xs) n) _ (eq-eqb _ _ a) b, c);
  begun = λ ls xs m e. let (a, b, c, d) = rows_begun form 0 n ls xs m f e in (and_from (eqb (length xs) n) _ (eq-eqb _ _ a) b, c, d);
  wrong = λ ls xs m e ys rest h q. let (a, b) = fitting ys h in rows_wrong form 0 n ls xs m f e ys rest a b q;
}
  where
    f : FormsFrom form 0 n
    f j a b = ok j (omega arith)

    fitting : (xs : List A) → eqb (length xs) n && rows_fit form 0 xs ≡ true → (length xs ≡ n) × (rows_fit form 0 xs ≡ true)
    fitting xs h = let (p, q) = and_parts (eqb (length xs) n) (rows_fit form 0 xs) h in (eqb-true _ _ p, q)

-- the same lines for another value
pub seen_section : {A B : Type 0} (to : A → B) (from : B → A) (s : Section A) → IsSection s → ((b : B) → to (from b) ≡ b) → ((a : A) → s.fits a ≡ true → from (to a) ≡ a)
    → IsSection (seen_as to from s)
seen_section {A = A} {B = B} to from s ok there back = record {
  blank_fits = ap s.fits (back s.blank ok.blank_fits) ∙ ok.blank_fits;
  lines = λ b h. ok.lines (from b) h;
  back = λ b rest h. ap (begun_as to) (ok.back (from b) rest h) ∙ ap (λ x. whole x rest) (there b);
  only = λ ls b rest e. only ls b rest e;
  begun = λ ls b n e. begun ls b n e;
  wrong = λ ls b n e c rest h q. wrong ls b n e c rest h q;
}
  where
    only : (ls : List (List ℕ)) (b : B) (rest : List (List ℕ)) → begun_as to (s.read ls) ≡ whole b rest → (s.fits (from b) ≡ true) × (ls ≡ s.write (from b) ++ rest)
    only ls b rest e = go (s.read ls) refl e
      where
        go : (r : Begun A) → s.read ls ≡ r → begun_as to r ≡ whole b rest → (s.fits (from b) ≡ true) × (ls ≡ s.write (from b) ++ rest)
        go (broken a n) q h = absurd (whole_broken (sym h))
        go (whole a more) q h =
            let v : to a ≡ b = whole_value h in
            let r : more ≡ rest = whole_rest h in
            let (p, w) = ok.only ls a rest (q ∙ ap (whole a) r) in
            let u : a ≡ from b = sym (back a p) ∙ ap from v in
            subst (λ x. (s.fits x ≡ true) × (ls ≡ s.write x ++ rest)) u (p, w)

    begun : (ls : List (List ℕ)) (b : B) (n : ℕ) → begun_as to (s.read ls) ≡ broken b n → (s.fits (from b) ≡ true) × (n < length (s.write (from b))) × (take n ls ≡ take n (s.write (from b)))
    begun ls b n e = go (s.read ls) refl e
      where
        go : (r : Begun A) → s.read ls ≡ r → begun_as to r ≡ broken b n → (s.fits (from b) ≡ true) × (n < length (s.write (from b))) × (take n ls ≡ take n (s.write (from b)))
        go (whole a more) q h = absurd (whole_broken h)
        go (broken a m) q h =
            let v : to a ≡ b = broken_value h in
            let c : m ≡ n = broken_count h in
            let (p, l, w) = ok.begun ls a n (q ∙ ap (broken a) c) in
            let u : a ≡ from b = sym (back a p) ∙ ap from v in
            subst (λ x. (s.fits x ≡ true) × (n < length (s.write x)) × (take n ls ≡ take n (s.write x))) u (p, l, w)

    wrong : (ls : List (List ℕ)) (b : B) (n : ℕ) → begun_as to (s.read ls) ≡ broken b n → (c : B) (rest : List (List ℕ)) → s.fits (from c) ≡ true
        → take (suc n) ls ≡ take (suc n) (s.write (from c) ++ rest) → ⊥
    wrong ls b n e c rest h q = go (s.read ls) refl e
      where
        go : (r : Begun A) → s.read ls ≡ r → begun_as to r ≡ broken b n → ⊥
        go (whole a more) z k = whole_broken k
        go (broken a m) z k = let d : m ≡ n = broken_count k in ok.wrong ls a n (z ∙ ap (broken a) d) (from c) rest h q
