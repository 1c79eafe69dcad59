use Rattle.std.proofs.Common.{◌≡◌, ◌+◌, length, take}
use Rattle.curve_paths.specs.Twists.{letters}
use Rattle.monodromy.proofs.ways.ways_of.Given as goal

-- there are two ways for each letter so far
abbrev pub invariant-loop-arc : goal.invariant-loop-arc
invariant-loop-arc l = length l.ways.items ≡ letters (take l.arc l.words) + letters (take l.arc l.words)
