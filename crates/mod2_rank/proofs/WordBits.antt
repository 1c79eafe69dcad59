-- One bit of a word: toggled, marked; and the lowest bit of a word that isn't 0.
use Rattle.std.proofs.Common.{◌≡◌, ◌⊎◌, ◌≢◌, ℕ, ◌+◌, ◌^◌, ◌<◌, ◌%◌, true, false, eqb, ◌||◌, refl, sym, ◌∙◌, ap, arith, inl, inr, w64}
use Rattle.std.specs.Int.{bit_at, trailing_zeros}
use Rattle.std.specs.Prelude.{bit_or, bit_xor, max}
use Rattle.std.proofs.lemmas.Bool.{cases_eq, eq-eqb, ne_eqb, false≢true}
use Rattle.std.proofs.lemmas.Nat.Bits.{bit_at-lt, bit_at-zero, bit_at-pow_same, bit_at-pow_other, bit_at_or, bit_at_xor, bit_at-trailing_zeros}
use Rattle.mod2_rank.specs.Rows.{differ}
use Rattle.mod2_rank.specs.RowWords.{is_set}

-- a bit is 0 or 1
bit_cases : (n : ℕ) → n < 2 → (n ≡ 0) ⊎ (n ≡ 1)
bit_cases n l = elim (cases_eq n 0) [ inl e ↦ inl e | inr ne ↦ inr (omega arith) ]

-- no bit of 0 is set
pub set_zero : (i : ℕ) → is_set 0 i ≡ false
set_zero i = rw (bit_at-zero i) refl

-- one bit of a word is toggled
pub set_toggled : (word k i : ℕ) → is_set (bit_xor word (2 ^ k)) i ≡ differ (is_set word i) (eqb i k)
set_toggled word k i = ap (λ b. eqb b 1) (bit_at_xor word (2 ^ k) i) ∙ go (cases_eq i k) (bit_cases (bit_at word i) (bit_at-lt word i))
  where
    same : i ≡ k → (b c : ℕ) → bit_at word i ≡ b → bit_at (2 ^ k) i ≡ c → c ≡ 1 → eqb ((b + c) % 2) 1 ≡ differ (eqb b 1) true → eqb ((bit_at word i + bit_at (2 ^ k) i) % 2) 1 ≡ differ (is_set word i) (eqb i k)
    same e b c p q r h = rw (p, q, eq-eqb i k e) h

    other : i ≢ k → (b : ℕ) → bit_at word i ≡ b → bit_at (2 ^ k) i ≡ 0 → eqb ((b + 0) % 2) 1 ≡ differ (eqb b 1) false → eqb ((bit_at word i + bit_at (2 ^ k) i) % 2) 1 ≡ differ (is_set word i) (eqb i k)
    other ne b p q h = rw (p, q, ne_eqb i k ne) h

    one : i ≡ k → bit_at (2 ^ k) i ≡ 1
    one e = rw e (bit_at-pow_same k)

    go : (i ≡ k) ⊎ (i ≢ k) → (bit_at word i ≡ 0) ⊎ (bit_at word i ≡ 1) → eqb ((bit_at word i + bit_at (2 ^ k) i) % 2) 1 ≡ differ (is_set word i) (eqb i k)
    go (inl e) (inl z) = same e 0 1 z (one e) refl refl
    go (inl e) (inr z) = same e 1 1 z (one e) refl refl
    go (inr ne) (inl z) = other ne 0 z (bit_at-pow_other k i ne) refl
    go (inr ne) (inr z) = other ne 1 z (bit_at-pow_other k i ne) refl

-- one bit of a word is set
pub set_marked : (word k i : ℕ) → is_set (bit_or word (2 ^ k)) i ≡ (is_set word i || eqb i k)
set_marked word k i = ap (λ b. eqb b 1) (bit_at_or word (2 ^ k) i) ∙ go (cases_eq i k) (bit_cases (bit_at word i) (bit_at-lt word i))
  where
    same : i ≡ k → (b c : ℕ) → bit_at word i ≡ b → bit_at (2 ^ k) i ≡ c → eqb (max b c) 1 ≡ (eqb b 1 || true) → eqb (max (bit_at word i) (bit_at (2 ^ k) i)) 1 ≡ (is_set word i || eqb i k)
    same e b c p q h = rw (p, q, eq-eqb i k e) h

    other : i ≢ k → (b : ℕ) → bit_at word i ≡ b → bit_at (2 ^ k) i ≡ 0 → eqb (max b 0) 1 ≡ (eqb b 1 || false) → eqb (max (bit_at word i) (bit_at (2 ^ k) i)) 1 ≡ (is_set word i || eqb i k)
    other ne b p q h = rw (p, q, ne_eqb i k ne) h

    one : i ≡ k → bit_at (2 ^ k) i ≡ 1
    one e = rw e (bit_at-pow_same k)

    go : (i ≡ k) ⊎ (i ≢ k) → (bit_at word i ≡ 0) ⊎ (bit_at word i ≡ 1) → eqb (max (bit_at word i) (bit_at (2 ^ k) i)) 1 ≡ (is_set word i || eqb i k)
    go (inl e) (inl z) = same e 0 1 z (one e) refl
    go (inl e) (inr z) = same e 1 1 z (one e) refl
    go (inr ne) (inl z) = other ne 0 z (bit_at-pow_other k i ne) refl
    go (inr ne) (inr z) = other ne 1 z (bit_at-pow_other k i ne) refl

-- the lowest bit of a word that isn't 0
pub record IsLowest (word i : ℕ) : Type 0 where
  pub small : i < 64
  pub on : is_set word i ≡ true
  pub below : (k : ℕ) → k < i → is_set word k ≡ false

-- a word that isn't 0 has its lowest bit there
pub lowest : (word : ℕ) → word ≢ 0 → word < 2 ^ 64 → IsLowest word (trailing_zeros w64 word)
lowest word ne l =
    let (small, on, below) = bit_at-trailing_zeros w64 word (omega arith) l in
    record { small = small; on = rw on refl; below = λ k lk. rw (below k lk) refl }

-- a word without bits is 0
pub no_bits : (word : ℕ) → word < 2 ^ 64 → ((i : ℕ) → i < 64 → is_set word i ≡ false) → word ≡ 0
no_bits word l h = elim (cases_eq word 0) [
  | inl e ↦ e
  | inr ne ↦ let low = lowest word ne l in absurd (false≢true (sym (h (trailing_zeros w64 word) low.small) ∙ low.on))
]
