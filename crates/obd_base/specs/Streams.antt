-- What a whole reading and a whole writing do.
use Rattle.std.specs.Prelude.{◌≡◌, ℕ, ◌≤◌, List, length, take, Option}
use Rattle.std.specs.Io.KnownBytes.{Consumes, Appends, IsAtEnd}

-- the source gave these bytes and nothing is left
pub record ReadWhole (old new : Option (List ℕ)) (bytes : List ℕ) : Type 0 where
  pub gave : Consumes old new bytes
  pub ended : IsAtEnd new

-- so many bytes were read
abbrev pub ReadCount : Option (List ℕ) → Option (List ℕ) → ℕ → Type 0
ReadCount old new n = (bytes : List ℕ) × Consumes old new bytes × (length bytes ≡ n)

-- at most so many bytes were read
abbrev pub ReadWithin : Option (List ℕ) → Option (List ℕ) → ℕ → Type 0
ReadWithin old new most = (n : ℕ) × (n ≤ most) × ReadCount old new n

-- the sink took a prefix of the text
abbrev pub TookPrefix : Option (List ℕ) → Option (List ℕ) → List ℕ → Type 0
TookPrefix old new text = (n : ℕ) × (n ≤ length text) × Appends old new (take n text)
