-- Steps of the loop that reads rows.
use Rattle.std.proofs.Common.{◌≡◌, ℕ, zero, suc, ◌+◌, true, false, cond, List, [], ◌∷◌, ◌++◌, length, refl, sym, ◌∙◌, ap, ap₂, arith, append_assoc, append-nil, length-append}
use Rattle.std.specs.Prelude.{◌-◌, ◌<◌, Bool}
use Rattle.witness_check.specs.Forms.{Begun, LineForm, after_row, after_rows, blank_rows, broken, guess, has_form, read_one, read_rows, whole}
use Rattle.witness_check.proofs.Sections.{whole_broken, whole_rest, whole_value}

-- before the first row
pub rows_start : {A : Type 0} (b : Begun (List A)) → after_rows [] b ≡ b
rows_start (whole xs rest) = refl
rows_start (broken xs n) = let z : 0 + n ≡ n = omega arith in ap (broken xs) z

one_row : {A : Type 0} (done : List A) (a : A) (b : Begun (List A)) → after_rows done (after_row a b) ≡ after_rows (done ++ (a ∷ [])) b
one_row done a (whole xs rest) = ap (λ ys. whole ys rest) (sym (append_assoc done (a ∷ []) xs))
one_row done a (broken xs n) =
    let size : length (done ++ (a ∷ [])) ≡ length done + length (a ∷ []) = length-append done (a ∷ []) in
    let z : length done + suc n ≡ length (done ++ (a ∷ [])) + n = omega (arith, size) in
    ap₂ broken (sym (append_assoc done (a ∷ []) xs)) z

-- a row that has its form
pub row_read : {A : Type 0} (form : ℕ → LineForm A) (i n : ℕ) (done : List A) (l : List ℕ) (ls : List (List ℕ)) → has_form (form i) l ≡ true
    → after_rows done (read_rows form i (suc n) (l ∷ ls)) ≡ after_rows (done ++ (guess (form i) l ∷ [])) (read_rows form (suc i) n ls)
row_read form i n done l ls h =
    ap (λ b. after_rows done (cond b (after_row (guess (form i) l) (read_rows form (suc i) n ls)) (broken (blank_rows form i (suc n)) 0))) h
    ∙ one_row done (guess (form i) l) (read_rows form (suc i) n ls)

-- a row that lacks it: so many rows were read
pub row_broken : {A : Type 0} (form : ℕ → LineForm A) (i n : ℕ) (done : List A) (l : List ℕ) (ls : List (List ℕ)) → has_form (form i) l ≡ false
    → after_rows done (read_rows form i (suc n) (l ∷ ls)) ≡ broken (done ++ blank_rows form i (suc n)) (length done)
row_broken form i n done l ls h =
    let z : length done + 0 ≡ length done = omega arith in
    ap (λ b. after_rows done (cond b (after_row (guess (form i) l) (read_rows form (suc i) n ls)) (broken (blank_rows form i (suc n)) 0))) h
    ∙ ap (broken (done ++ blank_rows form i (suc n))) z

-- after the last row
pub rows_end : {A : Type 0} (form : ℕ → LineForm A) (i : ℕ) (done : List A) (ls : List (List ℕ)) → after_rows done (read_rows form i 0 ls) ≡ whole done ls
rows_end form i done ls = ap (λ xs. whole xs ls) (append-nil done)

-- one row is read after some
pub rows_more : {A : Type 0} (shape : ℕ → LineForm A) (n i j m k : ℕ) (done new : List A) (all left rest : List (List ℕ)) (a : A)
    → read_rows shape 0 n all ≡ after_rows done (read_rows shape i m left) → j ≡ suc i → m ≡ suc k → read_one (shape i) left ≡ whole a rest → new ≡ done ++ (a ∷ [])
    → read_rows shape 0 n all ≡ after_rows new (read_rows shape j k rest)
rows_more shape n i j m k done new all left rest a h next e r p =
    h ∙ (ap (λ z. after_rows done (read_rows shape i z left)) e ∙ (go left r ∙ ap₂ (λ ys z. after_rows ys (read_rows shape z k rest)) (sym p) (sym next)))
  where
    go : (ls : List (List ℕ)) → read_one (shape i) ls ≡ whole a rest → after_rows done (read_rows shape i (suc k) ls) ≡ after_rows (done ++ (a ∷ [])) (read_rows shape (suc i) k rest)
    go [] q = absurd (whole_broken (sym q))
    go (l ∷ ls) q = by (has_form (shape i) l) refl q
      where
        by : (b : Bool) → has_form (shape i) l ≡ b → cond b (whole (guess (shape i) l) ls) (broken (shape i).blank 0) ≡ whole a rest
            → after_rows done (read_rows shape i (suc k) (l ∷ ls)) ≡ after_rows (done ++ (a ∷ [])) (read_rows shape (suc i) k rest)
        by false t z = absurd (whole_broken (sym z))
        by true t z =
            let v : guess (shape i) l ≡ a = whole_value z in
            let w : ls ≡ rest = whole_rest z in
            row_read shape i k done l ls t ∙ (λ j. after_rows (done ++ (v j ∷ [])) (read_rows shape (suc i) k (w j)))

-- or the next line lacks its form
pub rows_stop : {A : Type 0} (shape : ℕ → LineForm A) (n i m : ℕ) (done : List A) (all left : List (List ℕ))
    → read_rows shape 0 n all ≡ after_rows done (read_rows shape i m left) → i + m ≡ n → i < n → length done ≡ i → read_one (shape i) left ≡ broken (shape i).blank 0
    → read_rows shape 0 n all ≡ broken (done ++ blank_rows shape (length done) (n - length done)) (length done)
rows_stop shape n i zero done all left h c l e r = absurd (omega (arith, c, l))
rows_stop shape n i (suc k) done all left h c l e r = h ∙ (go left r ∙ ap₂ (λ j w. broken (done ++ blank_rows shape j w) (length done)) (sym e) rest)
  where
    rest : suc k ≡ n - length done
    rest = omega (arith, c, e)

    size : length done + 0 ≡ length done
    size = omega arith

    go : (ls : List (List ℕ)) → read_one (shape i) ls ≡ broken (shape i).blank 0 → after_rows done (read_rows shape i (suc k) ls) ≡ broken (done ++ blank_rows shape i (suc k)) (length done)
    go [] q = ap (broken (done ++ blank_rows shape i (suc k))) size
    go (l ∷ ls) q = by (has_form (shape i) l) refl q
      where
        by : (b : Bool) → has_form (shape i) l ≡ b → cond b (whole (guess (shape i) l) ls) (broken (shape i).blank 0) ≡ broken (shape i).blank 0
            → after_rows done (read_rows shape i (suc k) (l ∷ ls)) ≡ broken (done ++ blank_rows shape i (suc k)) (length done)
        by false t z = row_broken shape i k done l ls t
        by true t z = absurd (whole_broken z)

-- all were read
pub rows_done : {A : Type 0} (shape : ℕ → LineForm A) (n i m : ℕ) (done : List A) (all left : List (List ℕ))
    → read_rows shape 0 n all ≡ after_rows done (read_rows shape i m left) → m ≡ 0 → read_rows shape 0 n all ≡ whole done left
rows_done shape n i m done all left h e = h ∙ (ap (λ j. after_rows done (read_rows shape i j left)) e ∙ rows_end shape i done left)
