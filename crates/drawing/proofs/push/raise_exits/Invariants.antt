use Rattle.std.proofs.Common.{◌≡◌, ◌++◌, drop, map, take}
use Rattle.drawing.specs.PushTables.{raised}
use Rattle.drawing.proofs.push.raise_exits.Given as goal

-- the exits so far are moved, and the others as they were
abbrev pub invariant-loop-exit : goal.invariant-loop-exit
invariant-loop-exit l = l.exits ≡ map (raised l.near l.far) (take l.exit-index l.fn.exits) ++ drop l.exit-index l.fn.exits
