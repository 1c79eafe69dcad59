use Rattle.std.proofs.Common.{◌≡◌, take, true}
use Rattle.empty_domains.specs.Marks.{far_edges_rule_by, marked_by}
use Rattle.empty_domains.proofs.rules.far_edges_keep.Given as goal

-- the rule holds along the far edges so far
abbrev pub invariant-loop-start : goal.invariant-loop-start
invariant-loop-start l = far_edges_rule_by l.tables l.from l.to (marked_by l.pieces l.marks) l.fn.width (take l.start-index l.rows) ≡ true
