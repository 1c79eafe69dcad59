-- Tables of numbers that grow as they are filled.
use Rattle.std.specs.Prelude.{◌≡◌, ℕ, ◌<◌, List, length, slice_index}

-- a table with n numbers of which each is what a function says
pub record IsFilled (f : ℕ → ℕ) (n : ℕ) (table : List ℕ) : Type 0 where
  pub size : length table ≡ n
  pub each : (k : ℕ) → k < n → slice_index table k ≡ f k
