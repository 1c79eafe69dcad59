-- A line and the places of its blanks.
use Rattle.std.proofs.Common.{◌≡◌, ◌≢◌, ℕ, suc, ◌+◌, ◌-◌, ◌<◌, Bool, true, false, cond, not, nat_eq, nat_lt, List, [], ◌∷◌, ◌++◌, drop, take, length, refl, sym, ◌∙◌, ap, subst, arith, Option, Some, None, eqb-true}
use Rattle.std.specs.Prelude.{◌==◌, MatchOption, option_map}
use Rattle.std.specs.List.{position, position_or_len}
use Rattle.std.proofs.lemmas.Bool.{eq-eqb, ne_eqb, ltb-true, ltb-false}
use Rattle.std.proofs.lemmas.List.{take_rest}
use Rattle.std.proofs.lemmas.List.Sums.{prefix_len-le-length}
use Rattle.witness_check.specs.Splitting.{is_blank, onto_first, pieces_of, words_of}
use Rattle.witness_check.specs.Words.{cut_at, is_line, line_words, none_left}
use Rattle.witness_check.proofs.Cutting.{Free, IsLine}

-- where a place is found, and where none is
pub place_found : (p : ℕ → Bool) (xs : List ℕ) (k : ℕ) → position p xs ≡ Some k → (position_or_len p xs ≡ k) × (k < length xs)
place_found p xs k h = go (nat_lt (position_or_len p xs) (length xs)) refl h
  where
    go : (b : Bool) → nat_lt (position_or_len p xs) (length xs) ≡ b → cond b (Some (position_or_len p xs)) None ≡ Some k → (position_or_len p xs ≡ k) × (k < length xs)
    go false e q = cc
    go true e q = let is : position_or_len p xs ≡ k = cc in (is, subst (λ x. x < length xs) is (ltb-true _ _ e))

pub no_place : (p : ℕ → Bool) (xs : List ℕ) → position p xs ≡ None → position_or_len p xs ≡ length xs
no_place p xs h = go (nat_lt (position_or_len p xs) (length xs)) refl h
  where
    go : (b : Bool) → nat_lt (position_or_len p xs) (length xs) ≡ b → cond b (Some (position_or_len p xs)) None ≡ None → position_or_len p xs ≡ length xs
    go true e q = cc
    go false e q = let most = prefix_len-le-length (λ x. not (p x)) xs in let least = ltb-false (position_or_len p xs) (length xs) e in omega (arith, most, least)

-- the first piece ends at the first separating byte
pub first_piece : (t : ℕ → Bool) (l : List ℕ) (k : ℕ) → position_or_len t l ≡ k → k < length l → pieces_of t l ≡ take k l ∷ pieces_of t (drop (suc k) l)
first_piece t [] k e h = absurd (omega (arith, h))
first_piece t (c ∷ l) k e h = go (first_piece t l) (t c) refl e
  where
    go : ((k : ℕ) → position_or_len t l ≡ k → k < length l → pieces_of t l ≡ take k l ∷ pieces_of t (drop (suc k) l))
        → (b : Bool) → t c ≡ b → cond (not b) (1 + position_or_len t l) 0 ≡ k
        → cond b ([] ∷ pieces_of t l) (onto_first c (pieces_of t l)) ≡ take k (c ∷ l) ∷ pieces_of t (drop (suc k) (c ∷ l))
    go again true d q = subst (λ x. [] ∷ pieces_of t l ≡ take x (c ∷ l) ∷ pieces_of t (drop (suc x) (c ∷ l))) q refl
    go again false d q =
        let next : suc (position_or_len t l) ≡ k = omega (arith, q) in
        subst (λ x. onto_first c (pieces_of t l) ≡ take x (c ∷ l) ∷ pieces_of t (drop (suc x) (c ∷ l))) next
        (ap (onto_first c) (again (position_or_len t l) refl (omega (arith, h, next))))

-- without one all is one piece
pub lone_piece : (t : ℕ → Bool) (l : List ℕ) → position_or_len t l ≡ length l → 0 < length l → pieces_of t l ≡ l ∷ []
lone_piece t [] e h = absurd (omega (arith, h))
lone_piece t (c ∷ l) e h = go (lone_piece t l) (t c) refl e
  where
    rest : (m : List ℕ) → l ≡ m → (0 < length l → pieces_of t l ≡ l ∷ []) → onto_first c (pieces_of t l) ≡ (c ∷ l) ∷ []
    rest [] r again = ap (λ x. onto_first c (pieces_of t x)) r ∙ ap (λ x. (c ∷ x) ∷ []) (sym r)
    rest (d ∷ m) r again = ap (onto_first c) (again (subst (λ x. 0 < length x) (sym r) (omega arith)))

    go : (position_or_len t l ≡ length l → 0 < length l → pieces_of t l ≡ l ∷ []) → (b : Bool) → t c ≡ b → cond (not b) (1 + position_or_len t l) 0 ≡ length (c ∷ l)
        → cond b ([] ∷ pieces_of t l) (onto_first c (pieces_of t l)) ≡ (c ∷ l) ∷ []
    go again true d q = absurd (omega (arith, q))
    go again false d q = rest l refl (again (omega (arith, q)))

-- words are left where bytes are left
pub left_words : (l : List ℕ) → none_left (words_of l) ≡ (length l == 0)
left_words [] = refl
left_words (b ∷ l) = go (is_blank b) (words_of l) ∙ sym (ne_eqb (length (b ∷ l)) 0 (λ e. omega (arith, e)))
  where
    go : (c : Bool) (ws : List (List ℕ)) → none_left (cond c ([] ∷ ws) (onto_first b ws)) ≡ false
    go true ws = refl
    go false [] = refl
    go false (w ∷ ws) = refl

-- bytes whose first line feed is the last one
pub line_is : (l : List ℕ) → position_or_len (λ byte. nat_eq byte 10) l + 1 ≡ length l → IsLine l
line_is [] h = absurd (omega (arith, h))
line_is (c ∷ l) h = go (line_is l) (nat_eq c 10) refl h
  where
    alone : (m : List ℕ) → l ≡ m → length l ≡ 0 → c ≡ 10 → IsLine (c ∷ l)
    alone [] r z is = record { body = []; free = tt; whole = (λ i. is i ∷ r i) }
    alone (d ∷ m) r z is = absurd (omega (arith, z, ap length r))

    go : (position_or_len (λ byte. nat_eq byte 10) l + 1 ≡ length l → IsLine l) → (b : Bool) → nat_eq c 10 ≡ b
        → cond (not b) (1 + position_or_len (λ byte. nat_eq byte 10) l) 0 + 1 ≡ length (c ∷ l) → IsLine (c ∷ l)
    go again true e q = alone l refl (omega (arith, q)) (eqb-true c 10 e)
    go again false e q = let i = again (omega (arith, q)) in record { body = c ∷ i.body; free = (e, i.free); whole = ap (λ x. c ∷ x) i.whole }

pub is_line_from : (body : List ℕ) → Free (λ b. nat_eq b 10) body → position_or_len (λ byte. nat_eq byte 10) (body ++ (10 ∷ [])) + 1 ≡ length (body ++ (10 ∷ []))
is_line_from [] f = refl
is_line_from (c ∷ body) f = go (nat_eq c 10) f.0 (is_line_from body f.1)
  where
    go : (b : Bool) → b ≡ false → position_or_len (λ byte. nat_eq byte 10) (body ++ (10 ∷ [])) + 1 ≡ length (body ++ (10 ∷ []))
        → cond (not b) (1 + position_or_len (λ byte. nat_eq byte 10) (body ++ (10 ∷ []))) 0 + 1 ≡ length (c ∷ (body ++ (10 ∷ [])))
    go true e q = cc
    go false e q = omega (arith, q)

pub line_true : (l : List ℕ) → IsLine l → is_line l ≡ true
line_true l i = eq-eqb _ _ (subst (λ x. position_or_len (λ byte. nat_eq byte 10) x + 1 ≡ length x) (sym i.whole) (is_line_from i.body i.free))

pub true_line : (l : List ℕ) → is_line l ≡ true → IsLine l
true_line l h = line_is l (eqb-true _ _ h)

-- what a search of the line feed says of a line
pub feed_last : (l : List ℕ) (k : ℕ) → position (λ byte. nat_eq byte 10) l ≡ Some k → k + 1 ≡ length l → line_words l ≡ Some (words_of l)
feed_last l k h e = let p = (place_found (λ byte. nat_eq byte 10) l k h).0 in rw (p, eq-eqb (k + 1) (length l) e) refl

pub feed_before : (l : List ℕ) (k : ℕ) → position (λ byte. nat_eq byte 10) l ≡ Some k → k + 1 ≢ length l → line_words l ≡ None
feed_before l k h e = let p = (place_found (λ byte. nat_eq byte 10) l k h).0 in rw (p, ne_eqb (k + 1) (length l) e) refl

pub no_feed : (l : List ℕ) → position (λ byte. nat_eq byte 10) l ≡ None → line_words l ≡ None
no_feed l h = go (is_line l) refl
  where
    go : (b : Bool) → is_line l ≡ b → cond b (Some (words_of l)) None ≡ None
    go false e = refl
    go true e = let p = no_place (λ byte. nat_eq byte 10) l h in let q = eqb-true (position_or_len (λ byte. nat_eq byte 10) l + 1) (length l) e in absurd (omega (arith, p, q))

-- the first word, up to its blank
pub first_word : (l : List ℕ) (k : ℕ) → position is_blank l ≡ Some k → words_of l ≡ take k l ∷ words_of (take (length l - (k + 1)) (drop (k + 1) l))
first_word l k h =
    let f = place_found is_blank l k h in
    first_piece is_blank l k f.0 f.1 ∙ (ap (λ x. take k l ∷ words_of (drop x l)) (next k) ∙ ap (λ x. take k l ∷ words_of x) (sym (take_rest l (k + 1))))
  where
    next : (k : ℕ) → suc k ≡ k + 1
    next k = omega arith

-- and where there is no blank
pub lone_word : (l : List ℕ) → position is_blank l ≡ None → 0 < length l → words_of l ≡ l ∷ words_of (take (length l - length l) (drop (length l) l))
lone_word l h n = lone_piece is_blank l (no_place is_blank l h) n ∙ ap (λ x. l ∷ words_of x) (nothing (length l) (drop (length l) l))
  where
    nothing : (k : ℕ) (m : List ℕ) → [] ≡ take (k - k) m
    nothing k m = ap (λ x. take x m) (zero_is k)
      where
        zero_is : (k : ℕ) → 0 ≡ k - k
        zero_is k = omega arith

-- two parts of a word
abbrev cut : List ℕ → List ℕ → Option (List ℕ × List ℕ)
cut a b = Some (a, b)

-- and with a byte before them
abbrev later : ℕ → Option (List ℕ × List ℕ) → Option (List ℕ × List ℕ)
later c o = option_map (λ p. (c ∷ p.0, p.1)) o

-- cutting at the first place of a byte
cut_len : (m : ℕ) (w : List ℕ) (k : ℕ) → position_or_len (λ byte. nat_eq m byte) w ≡ k → k < length w → cut_at m w ≡ cut (take k w) (drop (suc k) w)
cut_len m [] k e h = absurd (omega (arith, h))
cut_len m (c ∷ w) k e h = go (cut_len m w) (nat_eq m c) refl e
  where
    go : ((k : ℕ) → position_or_len (λ byte. nat_eq m byte) w ≡ k → k < length w → cut_at m w ≡ cut (take k w) (drop (suc k) w))
        → (b : Bool) → nat_eq m c ≡ b → cond (not b) (1 + position_or_len (λ byte. nat_eq m byte) w) 0 ≡ k
        → cond b (cut [] w) (later c (cut_at m w)) ≡ cut (take k (c ∷ w)) (drop (suc k) (c ∷ w))
    go again true d q = subst (λ x. cut [] w ≡ cut (take x (c ∷ w)) (drop (suc x) (c ∷ w))) q refl
    go again false d q =
        let next : suc (position_or_len (λ byte. nat_eq m byte) w) ≡ k = omega (arith, q) in
        subst (λ x. later c (cut_at m w) ≡ cut (take x (c ∷ w)) (drop (suc x) (c ∷ w))) next
        (ap (later c) (again (position_or_len (λ byte. nat_eq m byte) w) refl (omega (arith, h, next))))

cut_no : (m : ℕ) (w : List ℕ) → position_or_len (λ byte. nat_eq m byte) w ≡ length w → cut_at m w ≡ None
cut_no m [] e = refl
cut_no m (c ∷ w) e = go (cut_no m w) (nat_eq m c) refl e
  where
    go : (position_or_len (λ byte. nat_eq m byte) w ≡ length w → cut_at m w ≡ None) → (b : Bool) → nat_eq m c ≡ b
        → cond (not b) (1 + position_or_len (λ byte. nat_eq m byte) w) 0 ≡ length (c ∷ w)
        → cond b (cut [] w) (later c (cut_at m w)) ≡ None
    go again true d q = absurd (omega (arith, q))
    go again false d q = ap (later c) (again (omega (arith, q)))

pub cut_found : (m : ℕ) (w : List ℕ) (k : ℕ) → position (λ byte. nat_eq m byte) w ≡ Some k → cut_at m w ≡ Some (take k w, take (length w - (k + 1)) (drop (k + 1) w))
cut_found m w k h =
    let f = place_found (λ byte. nat_eq m byte) w k h in
    cut_len m w k f.0 f.1 ∙ (ap (λ x. cut (take k w) (drop x w)) (next k) ∙ ap (λ x. cut (take k w) x) (sym (take_rest w (k + 1))))
  where
    next : (k : ℕ) → suc k ≡ k + 1
    next k = omega arith

pub cut_none : (m : ℕ) (w : List ℕ) → position (λ byte. nat_eq m byte) w ≡ None → cut_at m w ≡ None
cut_none m w h = cut_no m w (no_place (λ byte. nat_eq m byte) w h)

-- what is said of an option that is none
pub found_none : {T P : Type 0} (Q : T → Type 0) (o : Option T) → o ≡ None → P → MatchOption o P Q
found_none {T} {P} Q o none p = subst (λ x. MatchOption x P Q) (sym none) p
