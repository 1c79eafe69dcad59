use Rattle.std.proofs.Common.{◌≡◌, take, map}
use Rattle.curve_paths.specs.Paths.{crossing}
use Rattle.curve_paths.proofs.crossing.numbered.Given as goal

-- the crossings so far, by number
abbrev pub invariant-loop-cross : goal.invariant-loop-cross
invariant-loop-cross l = l.numbers.items ≡ map (crossing l.page) (take l.cross-index l.path)
