use Rattle.std.proofs.Common.{◌≡◌, map, take, string_bytes}
use Rattle.obd_doc.proofs.document.strings.Given as goal

-- the texts of the names so far
abbrev pub invariant-loop-name : goal.invariant-loop-name
invariant-loop-name l = map string_bytes l.strings.items ≡ take l.name-index l.names
