-- Turns of what is left, by the numbers of their points.
use Rattle.std.specs.Prelude.{◌≡◌, ℕ, ◌<◌, Bool, true, false, nat_eq, ◌||◌, slice_index_or}
use Rattle.obd_base.specs.declared.points.Exit.{Exit}
use Rattle.page_surface.specs.Drawing.{Drawing, entry, spot, strand_exits}
use Rattle.page_surface.specs.Polygon.{partner}
use Rattle.drawing.specs.Links.{AreNext, IsTurnLeft, exit_gone}
use Rattle.drawing.specs.Pieces.{span_count}
use Rattle.drawing.specs.declared.left_turns.Turn.{Turn}

-- these are the numbers of two exits, under both their names
pub record AreNumbersOf (d : Drawing) (out back : Exit) (t : Turn) : Type 0 where
  pub out_is : t.out ≡ spot d out
  pub entry_is : t.entry ≡ spot d (entry d out)
  pub back_is : t.back ≡ spot d back
  pub through_is : t.through ≡ spot d (entry d back)

-- they are all numbers of the place order
pub record AreInside (d : Drawing) (t : Turn) : Type 0 where
  pub out_in : t.out < span_count d
  pub entry_in : t.entry < span_count d
  pub back_in : t.back < span_count d
  pub through_in : t.through < span_count d

-- the exits of a strand with these numbers, the second by the partner of the first one's side
pub record HasNumbers (d : Drawing) (strand at next : ℕ) (t : Turn) : Type 0 where
  pub strand_is : t.strand ≡ strand
  pub at_is : t.at ≡ at
  pub next_is : t.next ≡ next
  pub out : Exit
  pub back : Exit
  pub out_read : out ≡ slice_index_or (strand_exits d strand) at out
  pub back_read : back ≡ slice_index_or (strand_exits d strand) next back
  pub returns : back.side ≡ partner d.polygon out.side
  pub numbers : AreNumbersOf d out back t
  pub inside : AreInside d t

-- both points stay, and have none that stays between them under either name
pub record IsFree (gone : ℕ → Bool) (t : Turn) : Type 0 where
  pub out_stays : gone t.out ≡ false
  pub back_stays : gone t.back ≡ false
  pub far : AreNext gone t.entry t.back
  pub near : AreNext gone t.out t.through

-- a turn of what is left, by its numbers
pub record IsTurnAt (d : Drawing) (gone : ℕ → Bool) (t : Turn) : Type 0 where
  pub out : Exit
  pub back : Exit
  pub turn : IsTurnLeft d gone t.strand t.at t.next out back
  pub numbers : AreNumbersOf d out back t
  pub inside : AreInside d t

-- what is gone, and the two points of a turn under both their names
abbrev pub marked : Turn → (ℕ → Bool) → ℕ → Bool
marked t gone x = gone x || (nat_eq x t.out || (nat_eq x t.entry || (nat_eq x t.back || nat_eq x t.through)))

-- a turn is gone, and so is all between its two exits, on the strand and on the sides
pub record AreGone (d : Drawing) (gone : ℕ → Bool) (t : Turn) : Type 0 where
  pub out_gone : gone t.out ≡ true
  pub entry_gone : gone t.entry ≡ true
  pub back_gone : gone t.back ≡ true
  pub through_gone : gone t.through ≡ true
  pub at_gone : exit_gone d gone t.strand t.at ≡ true
  pub next_gone : exit_gone d gone t.strand t.next ≡ true
  pub far : AreNext gone t.entry t.back
  pub near : AreNext gone t.out t.through
  pub follows : AreNext (exit_gone d gone t.strand) t.at t.next
