-- What the two ends in memory hold.
use Rattle.std.specs.Prelude.{ℕ, ◌+◌, ◌-◌, ◌^◌, ◌<◌, min, List, Contains}

-- a source in memory: the bytes that are left, the most that a call gives, the calls that fail, the
-- calls so far and the faults so far
pub record SourceTape : Type 0 where
  pub left : List ℕ
  pub piece : ℕ
  pub failing : List ℕ
  pub calls : ℕ
  pub faults : ℕ

-- a sink in memory: the bytes that were taken, the room that is left, and the rest as in a source
pub record SinkTape : Type 0 where
  pub taken : List ℕ
  pub room : ℕ
  pub piece : ℕ
  pub failing : List ℕ
  pub calls : ℕ
  pub faults : ℕ

-- the number of the call that follows so many calls; numbers stop at the last of 32 bits
abbrev pub next_count : ℕ → ℕ
next_count calls = min (calls + 1) (2 ^ 32 - 1)

-- the call after so many calls is listed
abbrev pub IsListed : List ℕ → ℕ → Type 0
IsListed failing calls = (calls < 2 ^ 32 - 1) × Contains failing (calls + 1)
