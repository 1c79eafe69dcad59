-- What code counts of the pieces by their names: sizes, first spans, flags of base pieces.
use Rattle.std.specs.Prelude.{◌≡◌, ℕ, ◌<◌, Bool, false, cond, nat_eq, List, length, slice_index, slice_index_or}
use Rattle.std.specs.List.{count_by, list_any, position_or_len}
use Rattle.obd_base.specs.Lists.{below}
use Rattle.page_surface.specs.Drawing.{Drawing}
use Rattle.drawing.specs.Pieces.{distance, gaps, pieces, span_count}
use Rattle.region_table.specs.Table.{Region, region_in}

-- how many of the first spans have a name, and the first of them
abbrev pub size_so_far : (ℕ → ℕ) → ℕ → ℕ → ℕ
size_so_far name x p = count_by (λ s. nat_eq (name s) p) (below x)

abbrev pub first_so_far : (ℕ → ℕ) → ℕ → ℕ → ℕ
first_so_far name x p = position_or_len (λ s. nat_eq (name s) p) (below x)

-- the tables so far; a name that was not met has no first span yet
pub record AreCounted (name : ℕ → ℕ) (x : ℕ) (sizes firsts : List ℕ) : Type 0 where
  pub size : (p : ℕ) → p < length sizes → slice_index sizes p ≡ size_so_far name x p
  pub first : (p : ℕ) → p < length sizes → 0 < size_so_far name x p → slice_index firsts p ≡ first_so_far name x p

-- some gap has the name
abbrev pub has_gap : Drawing → (ℕ → ℕ) → ℕ → Bool
has_gap d name p = list_any (λ g. nat_eq (name g) p) (gaps d)

-- the label of a piece before the sweeps: 0 for a base piece, and a bound for another
abbrev pub first_label : ℕ → Bool → ℕ
first_label bound base = cond base 0 bound

-- a piece from the tables of flags, first spans, sizes and labels
abbrev pub gathered : List Bool → List ℕ → List ℕ → List ℕ → ℕ → Region
gathered bases firsts sizes labels p = record {
  base = slice_index_or bases p false;
  first = slice_index firsts p;
  size = slice_index sizes p;
  distance = slice_index labels p;
}

-- what is told of each piece, by names of the spans
pub record AreTold (d : Drawing) (names : List ℕ) (regions : List Region) : Type 0 where
  pub count : length regions ≡ length (pieces d)
  pub base : (p : ℕ) → p < length regions → (region_in regions p).base ≡ has_gap d (λ s. slice_index names s) p
  pub first : (p : ℕ) → p < length regions → (region_in regions p).first ≡ first_so_far (λ s. slice_index names s) (span_count d) p
  pub size : (p : ℕ) → p < length regions → (region_in regions p).size ≡ size_so_far (λ s. slice_index names s) (span_count d) p
  pub distance : (s : ℕ) → s < span_count d → (region_in regions (slice_index names s)).distance ≡ distance d s
