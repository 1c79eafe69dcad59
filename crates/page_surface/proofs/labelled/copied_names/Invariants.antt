use Rattle.std.proofs.Common.{◌≡◌, take, map, string_bytes}
use Rattle.page_surface.proofs.labelled.copied_names.Given as goal

abbrev pub invariant-loop-name : goal.invariant-loop-name
invariant-loop-name l = l.copied ≡ map string_bytes (take l.name-index l.names)
