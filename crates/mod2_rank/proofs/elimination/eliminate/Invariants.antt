use Rattle.std.proofs.Common.{◌≡◌, ◌≤◌, ◌*◌, [], length, map}
use Rattle.mod2_rank.specs.Rows.{none}
use Rattle.mod2_rank.specs.RowWords.{row_in}
use Rattle.mod2_rank.proofs.PivotLists.{Pivots}
use Rattle.mod2_rank.proofs.elimination.eliminate.Given as goal

-- the pivots of the columns so far
abbrev pub invariant-loop-number : goal.invariant-loop-number
invariant-loop-number l = record {
  room : l.rows ≤ length l.left * 64;
  empty : row_in l.left ≡ none;
  size : length l.pivot_of.items ≡ l.rows;
  fresh_reduced : l.reduced.growing ≡ [];
  fresh_added : l.added.growing ≡ [];
  pivots : Pivots l.rows (map (λ c. c.rows) l.columns) l.number (map (λ p. p.column) l.pivots.items) (map (λ p. p.row) l.pivots.items) l.reduced.lists l.added.lists l.pivot_of.items;
}
