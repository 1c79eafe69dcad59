-- The points of an arc strand by strand: from each point to the next one on the same strand.
use Rattle.std.specs.Prelude.{◌≡◌, ℕ, ◌+◌, ◌<◌, ◌≤◌, Bool, cond, nat_eq, List, length, drop, slice_index, slice_index_or}
use Rattle.std.specs.List.{position_or_len}
use Rattle.generator_list.specs.declared.links.Links.{Links}

-- the first point from one on that lies on a strand, and the number of points where there is none
abbrev pub next_on : List ℕ → ℕ → ℕ → ℕ
next_on ss s from = from + position_or_len (λ t. nat_eq t s) (drop from ss)

-- from a point on: the first point on each of 8 strands, and for each point the next one on its strand
pub record IsLinkedFrom (ss : List ℕ) (links : Links) (from : ℕ) : Type 0 where
  pub first_size : length links.first ≡ 8
  pub next_size : length links.next ≡ length ss
  pub first : (s : ℕ) → s < 8 → slice_index links.first s ≡ next_on ss s from
  pub next : (k : ℕ) → from ≤ k → k < length ss → slice_index links.next k ≡ next_on ss (slice_index ss k) (k + 1)

-- the links of each arc
pub record AreLinked (arcs : List (List ℕ)) (links : List Links) : Type 0 where
  pub size : length links ≡ length arcs
  pub each : (k : ℕ) (d : List ℕ) (e : Links) → k < length arcs → IsLinkedFrom (slice_index_or arcs k d) (slice_index_or links k e) 0

-- for each of 8 strands that passes the first point on it from one on, and for the others the number of points
pub record AreCursors (ss : List ℕ) (passes : ℕ → Bool) (from : ℕ) (cursors : List ℕ) : Type 0 where
  pub size : length cursors ≡ 8
  pub each : (s : ℕ) → s < 8 → slice_index cursors s ≡ cond (passes s) (next_on ss s from) (length ss)
