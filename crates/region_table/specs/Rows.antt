-- Lists of numbers, one for each strand, with room to grow.
use Rattle.std.specs.Prelude.{ℕ, ◌+◌, ◌*◌, ◌<◌, ◌≤◌, List, Vec, length, slice_index_or, vec_capacity, vec_len}
use Rattle.std.specs.Global.{Global}

-- the lists, and for how many fingers each has room
pub record Rows : Type 0 where
  pub lists : List (List ℕ)
  pub room : ℕ

-- each list has room for two numbers more for each finger
abbrev pub HaveRoom : List (Vec ℕ Global) → ℕ → Type 0
HaveRoom rows room = (i : ℕ) (row : Vec ℕ Global) → i < length rows → vec_len (slice_index_or rows i row) + 2 * room ≤ vec_capacity (slice_index_or rows i row)
