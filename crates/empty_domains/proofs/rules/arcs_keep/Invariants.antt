use Rattle.std.proofs.Common.{◌≡◌, true}
use Rattle.std.specs.List.{list_all}
use Rattle.empty_domains.specs.Marks.{arc_rule_by, marked_by}
use Rattle.obd_base.specs.Lists.{below}
use Rattle.empty_domains.proofs.rules.arcs_keep.Given as goal

-- the rule holds on the arcs so far
abbrev pub invariant-loop-arc : goal.invariant-loop-arc
invariant-loop-arc l = list_all (arc_rule_by l.diagram l.tables l.from l.to (marked_by l.pieces l.marks)) (below l.arc) ≡ true
