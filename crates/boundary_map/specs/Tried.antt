-- What is known of the domains from a generator when some sets of pieces are tried.
use Rattle.std.specs.Prelude.{◌≡◌, ℕ, ◌<◌, Bool, false, nat_eq, Option, Some, None, List, [], filter, length, slice_index_or}
use Rattle.obd_base.specs.Lists.{is_odd}
use Rattle.page_surface.specs.Drawing.{Drawing}
use Rattle.drawing.specs.Pieces.{piece_table}
use Rattle.hkm_diagram.specs.Domains.{is_domain}

-- how many of the sets are domains from y to x
abbrev pub domain_count : Drawing → List ℕ → List ℕ → List (List ℕ) → ℕ
domain_count d y x sets = length (filter (is_domain d (piece_table d) y x) sets)

-- for each generator, whether an odd number of the sets are domains to it
pub record AreOdd (d : Drawing) (y : List ℕ) (generators : List (List ℕ)) (sets : List (List ℕ)) (odd : List Bool) : Type 0 where
  pub size : length odd ≡ length generators
  pub each : (i : ℕ) → i < length generators → slice_index_or odd i false ≡ is_odd (domain_count d y (slice_index_or generators i []) sets)

-- the number of the generator to which the set is a domain from y, where there is one
abbrev pub IsTarget : Drawing → List (List ℕ) → List ℕ → List ℕ → Option ℕ → Type 0
IsTarget d generators y set (Some i) = (i < length generators) × ((k : ℕ) → k < length generators → is_domain d (piece_table d) y (slice_index_or generators k []) set ≡ nat_eq k i)
IsTarget d generators y set None = (k : ℕ) → k < length generators → is_domain d (piece_table d) y (slice_index_or generators k []) set ≡ false
