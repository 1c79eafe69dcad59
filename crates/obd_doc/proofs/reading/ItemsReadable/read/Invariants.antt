use Rattle.std.proofs.Common.{map, take}
use Rattle.serde_json.specs.View.{view}
use Rattle.obd_doc.proofs.SoFar.{ReadSoFar}
use Rattle.obd_doc.proofs.reading.ItemsReadable.read.Given as goal

-- what was read of the values so far
abbrev pub invariant-loop-value : goal.invariant-loop-value
invariant-loop-value g l = ReadSoFar g.T.Readable.kind (map view (take l.value-index l.value-items)) l.items l.is_whole
