use Rattle.std.proofs.Common.{◌≡◌, take, filter_map}
use Rattle.curve_paths.specs.Through.{exit_through}
use Rattle.curve_paths.proofs.joined.joined_exits.Given as goal

-- the exits so far
abbrev pub invariant-loop-crossing : goal.invariant-loop-crossing
invariant-loop-crossing l = l.exits.items ≡ filter_map (exit_through l.basis l.crossings) (take l.crossing-index l.crossings)
