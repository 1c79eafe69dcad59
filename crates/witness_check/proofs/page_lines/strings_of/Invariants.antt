use Rattle.std.proofs.Common.{◌≡◌, map, take, string_bytes}
use Rattle.witness_check.proofs.page_lines.strings_of.Given as goal

-- the strings so far are those of the names before this one
abbrev pub invariant-loop-name : goal.invariant-loop-name
invariant-loop-name l = map string_bytes l.strings.items ≡ take l.name-index l.names
