use Rattle.std.proofs.Common.{◌≡◌, ◌≤◌, suc, eqb, get_or, take}
use Rattle.std.specs.List.{count_by}
use Rattle.empty_domains.proofs.collect.bigons.Given as goal

-- those among the pieces so far
abbrev pub invariant-loop-piece : goal.invariant-loop-piece
invariant-loop-piece l = record {
  value : l.count ≡ count_by (λ s. eqb (suc (get_or l.other s 0)) s) (take l.piece-index l.found);
  most : l.count ≤ l.piece-index;
}
