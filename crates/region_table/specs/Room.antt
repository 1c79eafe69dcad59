-- Room for fingers in the lists that a table grows by.
use Rattle.std.specs.Prelude.{◌≡◌, ℕ, ◌+◌, ◌*◌, ◌≤◌, Vec, length, vec_capacity, vec_len}
use Rattle.std.specs.Global.{Global}
use Rattle.region_table.specs.Ends.{ChordNo}

-- a list after a change that takes no memory
abbrev pub KeepsCapacity : {X : Type 0} → Vec X Global → Vec X Global → Type 0
KeepsCapacity before after = vec_capacity after ≡ vec_capacity before

-- a list has room for so many places more for each finger
abbrev pub HasPlaces : {X : Type 0} → ℕ → ℕ → Vec X Global → Type 0
HasPlaces step room list = vec_len list + step * room ≤ vec_capacity list

-- a list that took room
pub record TookRoom {X : Type 0} (before after : Vec X Global) : Type 0 where
  pub items : after.items ≡ before.items
  pub capacity : vec_capacity before ≤ vec_capacity after

-- the lists of a table with so many pieces have room for some fingers: for four spans and two pieces more each
pub record HasRoom (room pieces : ℕ) (names mates : Vec ℕ Global) (ends : Vec ChordNo Global) (rows told : ℕ) (starts next spans inner : Vec ℕ Global) : Type 0 where
  pub names_room : HasPlaces 4 room names
  pub mates_room : HasPlaces 4 room mates
  pub ends_room : HasPlaces 4 room ends
  pub rows_room : room ≤ rows
  pub told_room : room ≤ told
  pub starts_room : HasPlaces 2 room starts
  pub next_room : HasPlaces 2 room next
  pub spans_room : HasPlaces 4 room spans
  pub as_many_next : length next.items ≡ pieces
  pub few_inner : vec_len inner ≤ pieces
  pub inner_room : pieces + 2 * room ≤ vec_capacity inner
