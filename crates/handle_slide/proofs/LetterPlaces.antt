-- Where the letters of each exit stand after a slide, and the pairs among them.
use Rattle.std.proofs.Common.{◌≡◌, ◌≢◌, ℕ, suc, ◌+◌, ◌-◌, ◌<◌, ◌≤◌, Bool, true, false, cond, eqb, ◌&&◌, ◌||◌, List, [], ◌∷◌, ◌++◌, length, get_or, refl, sym, ap, ap₂, ◌∙◌, ◌⊎◌, inl, inr, arith, append-nil}
use Rattle.std.specs.List.{flat_map, sum_by}
use Rattle.std.proofs.lemmas.Bool.{cases_eq, eq-eqb, ne_eqb}
use Rattle.std.proofs.lemmas.List.Folds.{flat_map-map}
use Rattle.obd_base.specs.Lists.{below}
use Rattle.obd_base.specs.declared.points.Exit.{Exit}
use Rattle.obd_base.proofs.lists.Sums.{by_entries}
use Rattle.page_surface.specs.Drawing.{exit}
use Rattle.page_surface.specs.Polygon.{IsPolygon, Polygon, partner, sides}
use Rattle.curve_paths.specs.Curves.{exit_at, previous}
use Rattle.handle_slide.specs.Letters.{all_letters, is_pair, letter_at, letters_of, next_letter}
use Rattle.handle_slide.specs.Slide.{is_inside, is_slid, side_after}
use Rattle.handle_slide.proofs.Steps.{base_more, base_suc, flat_at, length-flat}
use Rattle.curve_paths.proofs.CurvePoints.{following, following-previous, previous-following, previous-less}
use Rattle.handle_slide.proofs.LetterKinds.{ends}

module _ (p : Polygon) (is : IsPolygon p) (k : ℕ) (lk : k < sides p) (slides : side_after p k ≢ partner p k) (c : List Exit) where
  abbrev pk : ℕ
  pk = partner p k

  abbrev k1 : ℕ
  k1 = side_after p k

  abbrev n : ℕ
  n = length c

  abbrev letter : ℕ → ℕ
  letter i = (exit_at c i).side

  abbrev inside : ℕ → Bool
  inside i = is_inside p k c i

  -- the letters of all exits in one row
  abbrev pub f : ℕ → List ℕ
  f i = letters_of p k (letter i)

  abbrev pub len : ℕ → ℕ
  len i = length (letters_of p k (exit_at c i).side)

  abbrev pub at : ℕ → ℕ
  at i = sum_by len (below i)

  abbrev pub w : List ℕ
  w = all_letters p k c

  w_is : w ≡ flat_map f (below n)
  w_is = ap (flat_map (λ (e : Exit). letters_of p k e.side)) (by_entries (exit 0 0) c n refl) ∙ flat_map-map (λ (e : Exit). letters_of p k e.side) (exit_at c) (below n)

  pub size : length w ≡ at n
  size = ap length w_is ∙ length-flat f n

  read : (i j : ℕ) → i < n → j < len i → letter_at w (at i + j) ≡ get_or (f i) j 0
  read i j l h = ap (λ xs. letter_at xs (at i + j)) w_is ∙ flat_at f n i j 0 l h

  step : (i : ℕ) → at (suc i) ≡ at i + len i
  step i = base_suc n len i

  more : (a b : ℕ) → a ≤ b → at a ≤ at b
  more a b l = base_more n len a b l

  -- the letter after the last of exit i is the first of the next exit
  next_last : (i : ℕ) → i < n → next_letter w (at i + (len i - 1)) ≡ get_or (f (following n i)) 0 0
  next_last i l =
      let some = (ends p is k lk slides (letter i)).some in
      let e : suc (at i + (len i - 1)) ≡ at (suc i) = omega (arith, step i, some) in
      elim (cases_eq (suc i) n) [
        | inl q ↦
            let all : at (suc i) ≡ length w = ap (λ x. at x) q ∙ sym size in
            let fol : following n i ≡ 0 = ap (λ b. cond b 0 (suc i)) (eq-eqb (suc i) n q) in
            ap (λ b. letter_at w (cond b 0 (suc (at i + (len i - 1))))) (eq-eqb _ _ (e ∙ all))
            ∙ (read 0 0 (omega (arith, l)) (omega (arith, (ends p is k lk slides (letter 0)).some)) ∙ ap (λ x. get_or (f x) 0 0) (sym fol))
        | inr m ↦
            let h : suc i < n = omega (arith, l, m) in
            let fol : following n i ≡ suc i = ap (λ b. cond b 0 (suc i)) (ne_eqb (suc i) n m) in
            let short : at (suc i) < length w = omega (arith, size, step (suc i), more (suc (suc i)) n h, (ends p is k lk slides (letter (suc i))).some) in
            ap (λ b. letter_at w (cond b 0 (suc (at i + (len i - 1))))) (ne_eqb _ _ (λ t. omega (arith, t, e, short)))
            ∙ (ap (letter_at w) (let z : suc (at i + (len i - 1)) ≡ at (suc i) + 0 = omega (arith, e) in z)
            ∙ (read (suc i) 0 h (omega (arith, (ends p is k lk slides (letter (suc i))).some)) ∙ ap (λ x. get_or (f x) 0 0) (sym fol)))
      ]

  -- a pair at the last letter of exit i is that the next chord is inside
  pub pair_last : (i : ℕ) → i < n → is_pair p k w (at i + (len i - 1)) ≡ inside (following n i)
  pair_last i l =
      let some = (ends p is k lk slides (letter i)).some in
      ap₂ (λ x y. x && y) (ap (λ x. eqb x pk) (read i (len i - 1) l (omega (arith, some))) ∙ (ends p is k lk slides (letter i)).last)
      (ap (λ x. eqb x k) (next_last i l) ∙ (ends p is k lk slides (letter (following n i))).first)
      ∙ sym (ap (λ x. is_slid p k (partner p (letter x)) && is_slid p k (letter (following n i))) (previous-following n i l))

  -- so at the letter before the first of exit i it is that chord i is inside
  pub pair_before : (i : ℕ) → i < n → is_pair p k w (previous (length w) (at i)) ≡ inside i
  pair_before i l =
      let j = previous n i in
      let lj = previous-less n i l in
      ap (is_pair p k w) (place (cases_eq i 0)) ∙ (pair_last j lj ∙ ap inside (following-previous n i l))
    where
      place : (i ≡ 0) ⊎ (i ≢ 0) → previous (length w) (at i) ≡ at (previous n i) + (len (previous n i) - 1)
      place (inl e) =
          let pr : previous n i ≡ n - 1 = ap (λ b. cond b (n - 1) (i - 1)) (eq-eqb i 0 e) in
          let z : at i ≡ 0 = ap (λ x. at x) e in
          let s = step (n - 1) in
          let t : at (suc (n - 1)) ≡ at n = ap (λ x. at x) (let u : suc (n - 1) ≡ n = omega (arith, l) in u) in
          ap (λ b. cond b (length w - 1) (at i - 1)) (eq-eqb (at i) 0 z)
          ∙ ((let u : length w - 1 ≡ at (n - 1) + (len (n - 1) - 1) = omega (arith, size, s, t, (ends p is k lk slides (letter (n - 1))).some) in u)
          ∙ ap (λ x. at x + (len x - 1)) (sym pr))
      place (inr m) =
          let pr : previous n i ≡ i - 1 = ap (λ b. cond b (n - 1) (i - 1)) (ne_eqb i 0 m) in
          let s = step (i - 1) in
          let t : at (suc (i - 1)) ≡ at i = ap (λ x. at x) (let u : suc (i - 1) ≡ i = omega (arith, m) in u) in
          let some = (ends p is k lk slides (letter (i - 1))).some in
          ap (λ b. cond b (length w - 1) (at i - 1)) (ne_eqb (at i) 0 (λ q. omega (arith, q, s, t, some)))
          ∙ ((let u : at i - 1 ≡ at (i - 1) + (len (i - 1) - 1) = omega (arith, s, t, some) in u) ∙ ap (λ x. at x + (len x - 1)) (sym pr))

  -- what is left of a letter
  abbrev pub left : ℕ → List ℕ
  left x = cond (is_pair p k w x || is_pair p k w (previous (length w) x)) [] (letter_at w x ∷ [])

  -- an exit with one letter
  pub one_letter : (i a : ℕ) → i < n → f i ≡ a ∷ [] → flat_map (λ j. left (at i + j)) (below (len i)) ≡ cond (inside (following n i) || inside i) [] (a ∷ [])
  one_letter i a l e =
      let one : len i ≡ 1 = ap length e in
      let z : at i + 0 ≡ at i = omega arith in
      let last : at i + 0 ≡ at i + (len i - 1) = omega (arith, one) in
      ap (λ m. flat_map (λ j. left (at i + j)) (below m)) one
      ∙ (append-nil (left (at i + 0))
      ∙ (ap₂ (λ x y. cond (x || y) [] (letter_at w (at i + 0) ∷ [])) (ap (is_pair p k w) last ∙ pair_last i l) (ap (λ x. is_pair p k w (previous (length w) x)) z ∙ pair_before i l)
      ∙ ap (λ x. cond (inside (following n i) || inside i) [] (x ∷ [])) (read i 0 l (omega (arith, one)) ∙ ap (λ xs. get_or xs 0 0) e)))

  -- and one with two, the first of which isn't p(x)
  pub two_letters : (i a b : ℕ) → i < n → f i ≡ a ∷ b ∷ [] → a ≢ pk → flat_map (λ j. left (at i + j)) (below (len i)) ≡ cond (inside i) [] (a ∷ []) ++ cond (inside (following n i)) [] (b ∷ [])
  two_letters i a b l e no_pair =
      let two : len i ≡ 2 = ap length e in
      let z : at i + 0 ≡ at i = omega arith in
      let last : at i + 1 ≡ at i + (len i - 1) = omega (arith, two) in
      let first_read = read i 0 l (omega (arith, two)) ∙ ap (λ xs. get_or xs 0 0) e in
      let second_read = read i 1 l (omega (arith, two)) ∙ ap (λ xs. get_or xs 1 0) e in
      let no_first : is_pair p k w (at i + 0) ≡ false = ap (λ x. eqb x pk && eqb (next_letter w (at i + 0)) k) first_read ∙ ap (λ x. x && eqb (next_letter w (at i + 0)) k) (ne_eqb a pk no_pair) in
      let back : previous (length w) (at i + 1) ≡ at i + 0 = ap (λ x. cond x (length w - 1) (at i + 1 - 1)) (ne_eqb (at i + 1) 0 (λ q. omega (arith, q))) ∙ omega arith in
      let first_left : left (at i + 0) ≡ cond (inside i) [] (a ∷ [])
      = ap₂ (λ x y. cond (x || y) [] (letter_at w (at i + 0) ∷ [])) no_first (ap (λ x. is_pair p k w (previous (length w) x)) z ∙ pair_before i l) ∙ ap (λ x. cond (inside i) [] (x ∷ [])) first_read in
      let second_left : left (at i + 1) ≡ cond (inside (following n i)) [] (b ∷ [])
      = ap₂ (λ x y. cond (x || y) [] (letter_at w (at i + 1) ∷ [])) (ap (is_pair p k w) last ∙ pair_last i l) (ap (is_pair p k w) back ∙ no_first)
      ∙ (ap (λ x. cond x [] (letter_at w (at i + 1) ∷ [])) (or_false (inside (following n i))) ∙ ap (λ x. cond (inside (following n i)) [] (x ∷ [])) second_read) in
      ap (λ m. flat_map (λ j. left (at i + j)) (below m)) two ∙ ap₂ (λ x y. x ++ y) first_left (append-nil (left (at i + 1)) ∙ second_left)
    where
      or_false : (b : Bool) → (b || false) ≡ b
      or_false true = refl
      or_false false = refl
