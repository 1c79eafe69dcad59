-- A block of words with a mark: the word that its lowest mark tells, and the block without that mark.
use Rattle.std.proofs.Common.{◌≡◌, ◌≢◌, ℕ, ◌+◌, ◌*◌, ◌^◌, ◌<◌, ◌/◌, ◌%◌, true, List, length, get_or, set, take, sym, ◌∙◌, ap, subst, arith, w64}
use Rattle.std.specs.Int.{bit_at, trailing_zeros}
use Rattle.std.specs.Int.Bits.{bit_and, bit_or, bit_xor, xor_add_and}
use Rattle.mod2_rank.specs.Rows.{IsLeast, Rows, odd_times, only, plus}
use Rattle.mod2_rank.proofs.Vectors.{plus_assoc}
use Rattle.mod2_rank.proofs.Reducing.{odd_times_push}
use Rattle.std.proofs.lemmas.Bool.{eqb-true}
use Rattle.std.proofs.lemmas.List.{get_or-set_same, get_or_read, take_more}
use Rattle.std.proofs.lemmas.Nat.{one_shl, pow_pos}
use Rattle.std.proofs.lemmas.Nat.Bits.{and_pow}
use Rattle.mod2_rank.specs.RowWords.{AreMarked, ClearBelow, is_set, row_in, word_at}
use Rattle.mod2_rank.proofs.RowSets.{clear_to_mark, least_row_is, marked_less, marked_more, row_at, row_toggled}
use Rattle.mod2_rank.proofs.WordBits.{IsLowest, lowest}

-- a set bit taken away makes the word less
pub taken_less : (word i : ℕ) → is_set word i ≡ true → bit_xor word (2 ^ i) + 2 ^ i ≡ word
taken_less word i on =
    let b : bit_at word i ≡ 1 = eqb-true (bit_at word i) 1 on in
    let a : bit_and word (2 ^ i) ≡ 2 ^ i = and_pow word i ∙ rw b (omega arith) in
    omega (arith, xor_add_and word (2 ^ i), a)

module _ (words marks : List ℕ) (block : ℕ) (inside : block < length marks) (ok : AreMarked words marks) (clear : ClearBelow words (block * 64))
    (small : get_or marks block 0 < 2 ^ 64) (some : get_or marks block 0 ≢ 0) where
  -- the marks of the block
  abbrev mark : ℕ
  mark = get_or marks block 0

  -- the lowest of them
  abbrev bit : ℕ
  bit = trailing_zeros w64 mark

  -- the bit is the lowest of the mark
  low : IsLowest mark bit
  low = lowest mark some small

  -- so its word is marked
  marked_here : row_in marks (block * 64 + bit) ≡ true
  marked_here = row_at marks block bit low.small ∙ low.on

  -- the word is one
  pub word_inside : block * 64 + bit < length words
  word_inside = ok.within (block * 64 + bit) marked_here

  -- the words before it are 0
  pub word_clear : ClearBelow words (block * 64 + bit)
  word_clear = clear_to_mark words marks ok block bit clear low

  -- the mark, as code writes it
  shifted : 1 * 2 ^ bit % 2 ^ 64 ≡ 2 ^ bit
  shifted = one_shl bit 64 low.small

  -- without the mark the others still tell, where the word is 0
  pub mark_gone : word_at words (block * 64 + bit) ≡ 0 → AreMarked words (set marks block (bit_xor mark (1 * 2 ^ bit % 2 ^ 64)))
  mark_gone z =
      let s = low.small in
      let q : (block * 64 + bit) / 64 ≡ block = omega arith in
      let m : (block * 64 + bit) % 64 ≡ bit = omega arith in
      let r = marked_less words marks (block * 64 + bit) ok z marked_here (subst (λ n. n < length marks) (sym q) inside) in
      rw shifted (rw (q, m) at r)

  -- and the block's marks are less
  pub mark_less : get_or (set marks block (bit_xor mark (1 * 2 ^ bit % 2 ^ 64))) block 0 < mark
  mark_less =
      let e : get_or (set marks block (bit_xor mark (1 * 2 ^ bit % 2 ^ 64))) block 0 ≡ bit_xor mark (2 ^ bit) = get_or-set_same marks block _ 0 inside ∙ ap (bit_xor mark) shifted in
      omega (arith, e, taken_less mark bit low.on, pow_positive bit)
    where
      pow_positive : (k : ℕ) → 0 < 2 ^ k
      pow_positive k = pow_pos k

-- a row toggled, as code writes it
pub toggled_here : (words : List ℕ) (row word : ℕ) → row / 64 < length words → word ≡ get_or words (row / 64) word
    → row_in (set words (row / 64) (bit_xor word (1 * 2 ^ (row % 64) % 2 ^ 64))) ≡ plus (row_in words) (only row)
toggled_here words row word l e =
    let s : 1 * 2 ^ (row % 64) % 2 ^ 64 ≡ 2 ^ (row % 64) = one_shl (row % 64) 64 (omega arith) in
    let z : word ≡ get_or words (row / 64) 0 = get_or_read words (row / 64) word l e 0 in
    ap (λ n. row_in (set words (row / 64) (bit_xor word n))) s ∙ (ap (λ n. row_in (set words (row / 64) (bit_xor n (2 ^ (row % 64))))) z ∙ row_toggled words row l)

-- and its word marked
pub marked_here_too : (words marks : List ℕ) (i new mark : ℕ) → AreMarked words marks → i < length words → i / 64 < length marks → mark ≡ get_or marks (i / 64) mark
    → AreMarked (set words i new) (set marks (i / 64) (bit_or mark (1 * 2 ^ (i % 64) % 2 ^ 64)))
marked_here_too words marks i new mark ok l m e =
    let s : 1 * 2 ^ (i % 64) % 2 ^ 64 ≡ 2 ^ (i % 64) = one_shl (i % 64) 64 (omega arith) in
    let z : mark ≡ get_or marks (i / 64) 0 = get_or_read marks (i / 64) mark m e 0 in
    subst (λ n. AreMarked (set words i new) (set marks (i / 64) n)) (sym (ap (λ n. bit_or mark n) s ∙ ap (λ n. bit_or n (2 ^ (i % 64))) z)) (marked_more words marks i new ok l m)

-- the least row, as code writes it
pub least_here : (words : List ℕ) (i word : ℕ) → ClearBelow words i → i < length words → word_at words i ≢ 0 → word ≡ get_or words i word → ((k : ℕ) → get_or words k 0 < 2 ^ 64)
    → IsLeast (row_in words) (i * 64 + trailing_zeros w64 word)
least_here words i word clear l some e small =
    let z : word ≡ get_or words i 0 = get_or_read words i word l e 0 in
    rw z (least_row_is words i (trailing_zeros w64 (get_or words i 0)) clear (lowest (get_or words i 0) some (small i)))

-- one row more of some that are toggled in turn
pub toggled_next : (xs : List ℕ) (i : ℕ) (start now next : Rows) → i < length xs → now ≡ plus start (odd_times (take i xs)) → next ≡ plus now (only (get_or xs i 0))
    → next ≡ plus start (odd_times (take (i + 1) xs))
toggled_next xs i start now next l e f =
    f ∙ (ap (λ (v : Rows). plus v (only (get_or xs i 0))) e ∙ (plus_assoc start (odd_times (take i xs)) (only (get_or xs i 0))
    ∙ ap (plus start) (sym (ap odd_times (take_more xs i 0 l) ∙ odd_times_push (take i xs) (get_or xs i 0)))))
