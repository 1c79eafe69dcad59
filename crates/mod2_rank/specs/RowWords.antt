-- Sets of rows in words of 64 bits.
use Rattle.std.specs.Prelude.{◌≡◌, ◌≢◌, ℕ, ◌<◌, ◌/◌, ◌%◌, Bool, true, nat_eq, List, length, slice_index_or}
use Rattle.std.specs.Int.{bit_at}

-- bit i of the word is set
abbrev pub is_set : ℕ → ℕ → Bool
is_set word i = nat_eq (bit_at word i) 1

-- word i, and 0 past the end
abbrev pub word_at : List ℕ → ℕ → ℕ
word_at words i = slice_index_or words i 0

-- row r is in the set: its bit is set, 64 rows a word
abbrev pub row_in : List ℕ → ℕ → Bool
row_in words r = is_set (word_at words (r / 64)) (r % 64)

-- the marks, again 64 a word, tell which words may hold a row: each word that isn't 0 is marked, and only words are
pub record AreMarked (words marks : List ℕ) : Type 0 where
  pub each : (i : ℕ) → word_at words i ≢ 0 → row_in marks i ≡ true
  pub within : (i : ℕ) → row_in marks i ≡ true → i < length words

-- all words below a number are 0
abbrev pub ClearBelow : List ℕ → ℕ → Type 0
ClearBelow words i = (k : ℕ) → k < i → word_at words k ≡ 0
