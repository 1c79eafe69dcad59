use Rattle.std.proofs.Common.{◌≡◌, ℕ, ◌≤◌, length, get_or}
use Rattle.region_table.specs.Counted.{AreCounted}
use Rattle.region_table.proofs.names.count_spans.Given as goal

-- the spans so far are counted
abbrev pub invariant-loop-at : goal.invariant-loop-at
invariant-loop-at l = record {
  counted : AreCounted (λ s. get_or l.names s 0) l.at l.sizes l.firsts;
  size : length l.sizes ≡ length l.fn.sizes;
  first_size : length l.firsts ≡ length l.fn.firsts;
  small : (p : ℕ) → get_or l.sizes p 0 ≤ l.at;
}
