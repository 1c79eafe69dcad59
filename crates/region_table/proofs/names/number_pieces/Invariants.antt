use Rattle.std.proofs.Common.{◌≡◌, ◌≤◌, map}
use Rattle.std.specs.List.{count_by}
use Rattle.obd_base.specs.Lists.{below}
use Rattle.region_table.specs.Naming.{number_of}
use Rattle.region_table.proofs.NumberSweep.{begins}
use Rattle.region_table.proofs.names.number_pieces.Given as goal

-- the pieces of the spans so far, and how many of them there are
abbrev pub invariant-loop-at : goal.invariant-loop-at
invariant-loop-at l = record {
  named : l.names.items ≡ map (number_of l.drawing.drawing) (below l.at);
  counted : l.count ≡ count_by (begins l.drawing.drawing) (below l.at);
  few : l.count ≤ l.at;
}
