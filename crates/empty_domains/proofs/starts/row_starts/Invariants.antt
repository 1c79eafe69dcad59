use Rattle.std.proofs.Common.{◌≡◌, ◌-◌, ◌<◌, ◌≤◌, get_or, length}
use Rattle.empty_domains.specs.Sweep.{chain, starts}
use Rattle.empty_domains.proofs.starts.row_starts.Given as goal

-- the rows so far, and where the next one begins
abbrev pub invariant-loop-row : goal.invariant-loop-row
invariant-loop-row l = record {
  inside : l.at < length l.tables.other;
  under : l.row ≤ l.fn.count;
  here : l.at ≡ chain (λ x. get_or l.tables.other x 0) (λ x. get_or l.tables.opposite x 0) l.fn.start l.row;
  so_far : l.rows.items ≡ starts (λ x. get_or l.tables.other x 0) (λ x. get_or l.tables.opposite x 0) l.fn.start l.row;
}

-- the rows that are left
abbrev pub decreases-loop-row : goal.decreases-loop-row
decreases-loop-row l = l.fn.count - l.row
