-- Counts of places, and the tree of their sums.
use Rattle.std.specs.Prelude.{◌≡◌, ℕ, ◌+◌, ◌*◌, ◌<◌, ◌≤◌, ◌^◌, List, drop, length, replicate, slice_index_or, slice_set, sum}
use Rattle.std.specs.Int.{IsPowerOfTwo}

-- nothing at any of n places
abbrev pub zeros : ℕ → List ℕ
zeros n = replicate n 0

-- one more at a place
abbrev pub one_more : List ℕ → ℕ → List ℕ
one_more counts place = slice_set counts place (slice_index_or counts place 0 + 1)

-- node i is the sum of nodes 2 i and 2 i + 1, and the counts are the last nodes; there are as many counts as other nodes
pub record IsTree (leaves : ℕ) (nodes : List ℕ) : Type 0 where
  pub power : IsPowerOfTwo leaves
  pub size : length nodes ≡ leaves + leaves
  pub few_leaves : leaves ≤ 2 ^ 31
  pub pairs : (i : ℕ) → 1 ≤ i → i < leaves → slice_index_or nodes i 0 ≡ slice_index_or nodes (2 * i) 0 + slice_index_or nodes (2 * i + 1) 0
  pub small : (i : ℕ) → slice_index_or nodes i 0 ≤ sum (drop leaves nodes)
  pub few : sum (drop leaves nodes) < 2 ^ 32
