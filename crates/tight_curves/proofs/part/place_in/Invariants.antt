use Rattle.std.proofs.Common.{◌≡◌, ◌≤◌, take}
use Rattle.tight_curves.specs.Turns.{place_by_exits}
use Rattle.tight_curves.proofs.part.place_in.Given as goal

-- the exits so far are counted
abbrev pub invariant-loop-exit : goal.invariant-loop-exit
invariant-loop-exit l = (l.count ≡ place_by_exits l.polygon l.exits (take l.exit-index l.part) l.at) × (l.count ≤ l.exit-index)
