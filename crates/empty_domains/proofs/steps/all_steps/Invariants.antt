use Rattle.std.proofs.Common.{◌≡◌, length}
use Rattle.std.specs.List.{flat_map}
use Rattle.empty_domains.specs.Ground.{arc_strips_by}
use Rattle.obd_base.specs.Lists.{below}
use Rattle.empty_domains.proofs.steps.all_steps.Given as goal

-- the steps of the arcs so far
abbrev pub invariant-loop-arc : goal.invariant-loop-arc
invariant-loop-arc l = record {
  size : length l.lasts ≡ length l.tables.ends;
  steps : l.steps.items ≡ flat_map (arc_strips_by l.tables l.standing l.diagram (length l.tables.other)) (below l.arc);
}
