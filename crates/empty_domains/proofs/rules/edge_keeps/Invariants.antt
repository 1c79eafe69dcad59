use Rattle.std.proofs.Common.{◌≡◌, ◌+◌, ◌≤◌, cond, true}
use Rattle.std.specs.List.{list_all}
use Rattle.empty_domains.specs.Ground.{spot_rule_by}
use Rattle.empty_domains.specs.Marks.{marked_by}
use Rattle.obd_base.specs.Lists.{below}
use Rattle.empty_domains.proofs.rules.edge_keeps.Given as goal

-- the rule holds at the points so far, and the mark before the next one is known
abbrev pub invariant-loop-column : goal.invariant-loop-column
invariant-loop-column l = record {
  kept : list_all (λ i. spot_rule_by l.tables l.from l.to (marked_by l.pieces l.marks) (l.fn.start + i)) (below l.column) ≡ true;
  before : l.before ≡ cond (marked_by l.pieces l.marks (l.fn.start + l.column)) 1 0;
  small : l.before ≤ 1;
}
