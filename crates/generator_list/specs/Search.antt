-- The search for generators: one point an arc, their strands all different. A beginning is left as soon as the arcs
-- after it can't be given different strands that it doesn't use.
use Rattle.std.specs.Prelude.{ℕ, suc, ◌^◌, ◌<◌, Bool, true, false, cond, nat_eq, ◌&&◌, ◌||◌, not, List, [], ◌∷◌, ◌++◌, map, length, slice_index_or}
use Rattle.std.specs.Int.{bit_at}
use Rattle.std.specs.Int.Bits.{bit_or}
use Rattle.std.specs.List.{All, flat_map, list_any, enumerate_from}
use Rattle.obd_base.specs.Lists.{below}
use Rattle.page_surface.specs.Drawing.{Drawing}
use Rattle.page_surface.specs.Polygon.{arc_count}
use Rattle.drawing.specs.Points.{crossings_of, strand_of}

-- the strands of the points of an arc
abbrev pub arc_strands : Drawing → ℕ → List ℕ
arc_strands d a = map (strand_of d a) (below (suc (crossings_of d a)))

-- the same for each arc
abbrev pub all_strands : Drawing → List (List ℕ)
all_strands d = map (arc_strands d) (below (arc_count d.polygon))

-- strand s is in the set of bits
abbrev pub in_set : ℕ → ℕ → Bool
in_set set s = nat_eq (bit_at set s) 1

-- the set with one strand more
abbrev pub with_strand : ℕ → ℕ → ℕ
with_strand set s = bit_or set (2 ^ s)

-- the arcs, each by the strands of its points, can be given different strands that aren't used, by a test of those used
abbrev pub meets : List (List ℕ) → (ℕ → Bool) → Bool
meets [] used = true
meets (ss ∷ rest) used = list_any (λ s. not (used s) && meets rest (λ k. nat_eq k s || used k)) ss

-- a point on strand s goes on: the strand isn't used, and with it the arcs after it still have strands of their own
abbrev pub goes_on : List (List ℕ) → ℕ → ℕ → Bool
goes_on rest used s = not (in_set used s) && meets rest (in_set (with_strand used s))

-- the lists that go on from a beginning which uses some strands
abbrev pub chosen : List (List ℕ) → ℕ → List ℕ → List (List ℕ)
chosen [] used begun = begun ∷ []
chosen (ss ∷ rest) used begun =
    flat_map (λ e. cond (goes_on rest used e.1) (chosen rest (with_strand used e.1) (begun ++ e.0 ∷ [])) []) (enumerate_from 0 ss)

-- a strand is in the set and isn't used, and with it the row of the arcs after says yes
abbrev pub is_choice : ℕ → List Bool → ℕ → ℕ → Bool
is_choice strands next used s = in_set strands s && (not (in_set used s) && slice_index_or next (with_strand used s) false)

-- for each set of 8 strands whether the arcs can be given different strands outside of it
abbrev pub open_row : List (List ℕ) → List Bool
open_row rest = map (λ set. meets rest (in_set set)) (below 256)

-- the rows for the last arcs, for none of them first
abbrev pub open_rows : List (List ℕ) → List (List Bool)
open_rows [] = open_row [] ∷ []
open_rows (ss ∷ rest) = open_rows rest ++ open_row (ss ∷ rest) ∷ []

-- few strands, and not too many points on an arc to number them
pub record AreSmall (arcs : List (List ℕ)) : Type 0 where
  pub few : All (λ ss. length ss < 2 ^ 32) arcs
  pub strands : All (All (λ s. s < 8)) arcs
