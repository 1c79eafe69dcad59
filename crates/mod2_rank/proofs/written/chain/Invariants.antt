use Rattle.std.proofs.Common.{◌≤◌, ◌*◌, length, map, reverse, get_or}
use Rattle.mod2_rank.specs.Reduction.{list_of}
use Rattle.mod2_rank.specs.Rows.{odd_times}
use Rattle.mod2_rank.specs.RowWords.{row_in}
use Rattle.mod2_rank.specs.Written.{chain_of}
use Rattle.mod2_rank.proofs.ChainWalk.{Walked}
use Rattle.mod2_rank.proofs.written.chain.Given as goal

-- the walk so far
abbrev pub invariant-loop-pivot : goal.invariant-loop-pivot
invariant-loop-pivot l = record {
  within : l.pivot ≤ length l.pivots;
  room : length l.pivots ≤ length l.flags * 64;
  walked : Walked (λ i. get_or (map (λ p. p.column) l.pivots) i 0) (λ i. odd_times (list_of l.added.lists i))
      (chain_of (length l.pivots) (map (λ p. p.column) l.pivots) l.added.lists l.last) l.pivot (row_in l.flags) (reverse l.found.items);
}

abbrev pub decreases-loop-pivot : goal.decreases-loop-pivot
decreases-loop-pivot l = l.pivot
