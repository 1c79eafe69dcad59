-- The first line of a text, and those that follow.
use Rattle.std.proofs.Common.{◌≡◌, ℕ, suc, ◌+◌, ◌<◌, ◌≤◌, Bool, true, false, cond, not, ltb, nat_eq, List, [], ◌∷◌, take, drop, length, Some, None, refl, sym, ◌∙◌, ap, subst, arith}
use Rattle.std.specs.List.{position, prefix_len}
use Rattle.std.proofs.lemmas.Bool.{ltb-true, ltb-false}
use Rattle.std.proofs.lemmas.List.{take_all, drop_all}
use Rattle.witness_check.specs.Forms.{has_form}
use Rattle.witness_check.specs.Line.{line}
use Rattle.witness_check.specs.Lines.{version_line}
use Rattle.witness_check.proofs.LineLaws.{version_law}
use Rattle.witness_check.proofs.Sections.{has_form_written}
use Rattle.witness_check.specs.Splitting.{lines_of, onto_first}

-- how many bytes stand before the first line feed
abbrev feed_at : List ℕ → ℕ
feed_at [] = 0
feed_at (b ∷ text) = cond (nat_eq b 10) 0 (suc (feed_at text))

feed_or_len : (text : List ℕ) → prefix_len (λ x. not (nat_eq x 10)) text ≡ feed_at text
feed_or_len [] = refl
feed_or_len (b ∷ text) = go (nat_eq b 10) (feed_or_len text)
  where
    go : (c : Bool) → prefix_len (λ x. not (nat_eq x 10)) text ≡ feed_at text → cond (not c) (1 + prefix_len (λ x. not (nat_eq x 10)) text) 0 ≡ cond c 0 (suc (feed_at text))
    go true h = refl
    go false h = omega (arith, h)

-- up to the first line feed
cut_fed : (text : List ℕ) → feed_at text < length text → lines_of text ≡ take (suc (feed_at text)) text ∷ lines_of (drop (suc (feed_at text)) text)
cut_fed [] l = absurd (omega (arith, l))
cut_fed (b ∷ text) l = go (nat_eq b 10) l (cut_fed text)
  where
    go : (c : Bool) → cond c 0 (suc (feed_at text)) < suc (length text)
        → (feed_at text < length text → lines_of text ≡ take (suc (feed_at text)) text ∷ lines_of (drop (suc (feed_at text)) text))
        → cond c ((b ∷ []) ∷ lines_of text) (onto_first b (lines_of text))
        ≡ take (suc (cond c 0 (suc (feed_at text)))) (b ∷ text) ∷ lines_of (drop (suc (cond c 0 (suc (feed_at text)))) (b ∷ text))
    go true h then = refl
    go false h then = ap (onto_first b) (then (omega (arith, h)))

-- or the whole text, where there is none
cut_unfed : (text : List ℕ) → length text ≤ feed_at text → (b : ℕ) → onto_first b (lines_of text) ≡ (b ∷ text) ∷ []
cut_unfed [] h b = refl
cut_unfed (a ∷ text) h b = go (nat_eq a 10) h (λ k. cut_unfed text k a)
  where
    go : (c : Bool) → suc (length text) ≤ cond c 0 (suc (feed_at text)) → (length text ≤ feed_at text → onto_first a (lines_of text) ≡ (a ∷ text) ∷ [])
        → onto_first b (cond c ((a ∷ []) ∷ lines_of text) (onto_first a (lines_of text))) ≡ (b ∷ (a ∷ text)) ∷ []
    go true k then = absurd (omega (arith, k))
    go false k then = ap (onto_first b) (then (omega (arith, k)))

line_unfed : (b : ℕ) (text : List ℕ) → suc (length text) ≤ feed_at (b ∷ text) → lines_of (b ∷ text) ≡ (b ∷ text) ∷ []
line_unfed b text h = go (nat_eq b 10) h
  where
    go : (c : Bool) → suc (length text) ≤ cond c 0 (suc (feed_at text)) → cond c ((b ∷ []) ∷ lines_of text) (onto_first b (lines_of text)) ≡ (b ∷ text) ∷ []
    go true k = absurd (omega (arith, k))
    go false k = cut_unfed text (omega (arith, k)) b

pub fed : (text : List ℕ) (at : ℕ) → position (λ b. nat_eq b 10) text ≡ Some at → lines_of text ≡ take (at + 1) text ∷ lines_of (drop (at + 1) text)
fed text at e = go (ltb (feed_at text) (length text)) refl (sym (ap (λ n. cond (ltb n (length text)) (Some n) None) (feed_or_len text)) ∙ e)
  where
    go : (c : Bool) → ltb (feed_at text) (length text) ≡ c → cond c (Some (feed_at text)) None ≡ Some at → lines_of text ≡ take (at + 1) text ∷ lines_of (drop (at + 1) text)
    go false q h = cc
    go true q h =
        let same : feed_at text ≡ at = cc in
        let next : suc (feed_at text) ≡ at + 1 = omega (arith, same) in
        subst (λ n. lines_of text ≡ take n text ∷ lines_of (drop n text)) next (cut_fed text (ltb-true (feed_at text) (length text) q))

pub unfed : (text : List ℕ) → 0 < length text → position (λ b. nat_eq b 10) text ≡ None → lines_of text ≡ take (length text) text ∷ lines_of (drop (length text) text)
unfed [] l e = absurd (omega (arith, l))
unfed (b ∷ text) l e = go (ltb (feed_at (b ∷ text)) (suc (length text))) refl (sym (ap (λ n. cond (ltb n (suc (length text))) (Some n) None) (feed_or_len (b ∷ text))) ∙ e)
  where
    go : (c : Bool) → ltb (feed_at (b ∷ text)) (suc (length text)) ≡ c → cond c (Some (feed_at (b ∷ text))) None ≡ None
        → lines_of (b ∷ text) ≡ take (suc (length text)) (b ∷ text) ∷ lines_of (drop (suc (length text)) (b ∷ text))
    go true q h = cc
    go false q h =
        let all : take (suc (length text)) (b ∷ text) ≡ b ∷ text = take_all (suc (length text)) (b ∷ text) (omega arith) in
        let none : drop (suc (length text)) (b ∷ text) ≡ [] = drop_all (suc (length text)) (b ∷ text) (omega arith) in
        line_unfed b text (ltb-false (feed_at (b ∷ text)) (suc (length text)) q) ∙ (λ i. sym all i ∷ lines_of (sym none i))

-- there are no more lines than bytes
pub few_lines : (text : List ℕ) → length (lines_of text) ≤ length text
few_lines [] = omega arith
few_lines (b ∷ text) = go (nat_eq b 10) (lines_of text) (few_lines text)
  where
    go : (c : Bool) (ls : List (List ℕ)) → length ls ≤ length text → length (cond c ((b ∷ []) ∷ ls) (onto_first b ls)) ≤ suc (length text)
    go true ls h = omega (arith, h)
    go false [] h = omega (arith, h)
    go false (l ∷ ls) h = omega (arith, h)

-- the line of the version isn't short
pub version_long : (l : List ℕ) → has_form version_line l ≡ true → 2 ≤ length l
unfolding line
version_long l h =
    let size = ap length (has_form_written version_line version_law l h).1 in
    omega (arith, size)
