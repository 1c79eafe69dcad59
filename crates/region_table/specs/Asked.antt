-- What is told of pieces whose sizes and first segments are counted only when they are asked.
use Rattle.std.specs.Prelude.{ℕ, Bool, cond, List, length, map, slice_index}
use Rattle.obd_base.specs.Lists.{below}
use Rattle.region_table.specs.Counted.{first_so_far, size_so_far}
use Rattle.region_table.specs.Table.{Region, region_in}

-- a piece with its size and its first segment as the names of spans say
abbrev pub by_names : List ℕ → List Region → ℕ → Region
by_names names regions p = record {
  base = (region_in regions p).base;
  first = first_so_far (λ s. slice_index names s) (length names) p;
  size = size_so_far (λ s. slice_index names s) (length names) p;
  distance = (region_in regions p).distance;
}

-- pieces as they are kept where they are counted, and else as the names say
unfoldable pub told_by : Bool → List ℕ → List Region → List Region
told_by counted names regions = cond counted regions (map (by_names names regions) (below (length regions)))
