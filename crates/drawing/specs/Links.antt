-- Links over what is gone, and the turns of what is left.
use Rattle.std.specs.Prelude.{◌≡◌, ℕ, ◌<◌, Bool, true, false, min, max, List, [], length, slice_index_or}
use Rattle.obd_base.specs.declared.points.Exit.{Exit}
use Rattle.page_surface.specs.Drawing.{Drawing, entry, exit, spot, strand_exits}
use Rattle.page_surface.specs.Polygon.{arc_count, partner}
use Rattle.drawing.specs.declared.links.Link.{Link}

-- all numbers between two are gone
abbrev pub Between : (ℕ → Bool) → ℕ → ℕ → Type 0
Between gone a b = (x : ℕ) → a < x → x < b → gone x ≡ true

-- two numbers, in either order, with none between them that stays
abbrev pub AreNext : (ℕ → Bool) → ℕ → ℕ → Type 0
AreNext gone a b = (min a b < max a b) × Between gone (min a b) (max a b)

-- the links of a number
abbrev pub link_at : List Link → ℕ → Link
link_at links x = slice_index_or links x (record { before = 0; after = 0 })

-- links lead over what is gone alone
pub record AreLinked (gone : ℕ → Bool) (links : List Link) : Type 0 where
  pub before : (x : ℕ) → x < length links → Between gone (link_at links x).before x
  pub after : (x : ℕ) → x < length links → Between gone x (link_at links x).after

-- whether the exit of a strand with a number is gone
abbrev pub exit_gone : Drawing → (ℕ → Bool) → ℕ → ℕ → Bool
exit_gone d gone i a = gone (spot d (slice_index_or (strand_exits d i) a (exit 0 0)))

-- the links of the exits of each strand, by their numbers in it
abbrev pub AreWays : Drawing → (ℕ → Bool) → List (List Link) → Type 0
AreWays d gone ways = (i : ℕ) → i < arc_count d.polygon → AreLinked (exit_gone d gone i) (slice_index_or ways i [])

-- the links of the numbers of the place order, and those of the exits of each strand
pub record AreLinksOf (d : Drawing) (gone : ℕ → Bool) (sides : List Link) (ways : List (List Link)) : Type 0 where
  pub sides_linked : AreLinked gone sides
  pub ways_linked : AreWays d gone ways

-- two exits that stay turn back in what is left: by a side and its partner, at neighbours on both
pub record TurnsBackLeft (d : Drawing) (gone : ℕ → Bool) (out back : Exit) : Type 0 where
  pub returns : back.side ≡ partner d.polygon out.side
  pub out_stays : gone (spot d out) ≡ false
  pub back_stays : gone (spot d back) ≡ false
  pub near : AreNext gone (spot d out) (spot d (entry d back))
  pub far : AreNext gone (spot d (entry d out)) (spot d back)

-- a turn of what is left of strand i: its exits with numbers a and b, with none between them that stays
pub record IsTurnLeft (d : Drawing) (gone : ℕ → Bool) (i a b : ℕ) (out back : Exit) : Type 0 where
  pub arc : i < arc_count d.polygon
  pub follows : a < b
  pub inside : b < length (strand_exits d i)
  pub out_is : out ≡ slice_index_or (strand_exits d i) a out
  pub back_is : back ≡ slice_index_or (strand_exits d i) b back
  pub none_between : Between (exit_gone d gone i) a b
  pub turns : TurnsBackLeft d gone out back
