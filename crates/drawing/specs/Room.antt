-- Drawings with room for fingers.
use Rattle.std.specs.Prelude.{ℕ, ◌*◌, ◌-◌, ◌≤◌, List, Vec, map, vec_capacity, vec_items, vec_len}
use Rattle.obd_base.specs.Lists.{Mem}
use Rattle.page_surface.specs.Drawing.{Drawing}

-- a drawing, and how many fingers can be pushed into it without more memory
pub record Roomy : Type 0 where
  pub drawing : Drawing
  pub room : ℕ

-- the lists that some vectors hold
abbrev pub rows : {X A : Type 0} → List (Vec X A) → List (List X)
rows vs = map vec_items vs

-- each of some vectors can take two more items for each of so many fingers
abbrev pub HaveRoom : {X A : Type 0} → ℕ → List (Vec X A) → Type 0
HaveRoom {X} {A} room vs = (v : Vec X A) → Mem v vs → 2 * room ≤ vec_capacity v - vec_len v
